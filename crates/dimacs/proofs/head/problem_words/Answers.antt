use Rattle.std.proofs.Common.{◌≡◌, Bool, true, false, drop, Some, None, sym, ap, ◌∙◌}
use Rattle.words.specs.Words.{said, tokens, said_before}
use Rattle.words.specs.Readers.{left}
use Rattle.dimacs.specs.Heads.{problem_line, problem_of}
use Rattle.dimacs.proofs.Heads.{tokens_at, problem_yes, problem_no}
use Rattle.dimacs.proofs.head.problem_words.Goals as goal
use Rattle.dimacs.proofs.head.problem_words.Goals.{After-next_word-more}

-- the words of the line are those that the reader said, and what follows them
words : (c : After-next_word-more) → said_before (said c.next_word-problem.result) (said_before (said c.next_word-form.result) (said_before (said c.next_word-variables.result) (said_before (said c.next_word-clauses.result) (said_before (said c.next_word-more.result) (left c.next_word-more.new.self))))) ≡ tokens c.args.start (drop c.args.start c.args.line.now)
words c =
    sym (
    sym (tokens_at c.args.line.now c.args.start)
    ∙ ap (λ n. tokens n (drop n c.args.line.now)) (sym c.at-reader.ensures.0)
    ∙ ap (λ t. tokens c.at-reader.result.pos (drop c.at-reader.result.pos t.now)) (sym c.at-reader.ensures.1)
    ∙ c.next_word-problem.ensures.met.words
    ∙ ap (said_before _) (c.next_word-form.ensures.met.words ∙ ap (said_before _) (c.next_word-variables.ensures.met.words ∙ ap (said_before _) (c.next_word-clauses.ensures.met.words ∙ ap (said_before _) c.next_word-more.ensures.met.words)))
    )

abbrev Line : After-next_word-more → Bool
Line c = problem_line c.args.start (said c.next_word-problem.result) (said c.next_word-form.result) (said c.next_word-variables.result) (said c.next_word-clauses.result) (said c.next_word-more.result)

no_line : (c : After-next_word-more) → Line c ≡ false → None ≡ problem_of c.args.start (tokens c.args.start (drop c.args.start c.args.line.now))
no_line c e =
    problem_no c.args.start (said c.next_word-problem.result) (said c.next_word-form.result) (said c.next_word-variables.result) (said c.next_word-clauses.result) (said c.next_word-more.result) (left c.next_word-more.new.self) e
    ∙ ap (problem_of c.args.start) (words c)

is_line : (c : After-next_word-more) → Line c ≡ true → Some (said c.next_word-variables.result, said c.next_word-clauses.result) ≡ problem_of c.args.start (tokens c.args.start (drop c.args.start c.args.line.now))
is_line c e =
    problem_yes _ _ c.args.start (said c.next_word-problem.result) (said c.next_word-form.result) (said c.next_word-variables.result) (said c.next_word-clauses.result) (said c.next_word-more.result) (left c.next_word-more.new.self) c.next_word-variables.ensures.met.honest c.next_word-clauses.ensures.met.honest e
    ∙ ap (problem_of c.args.start) (words c)

pub returns-then-not-is_problem_line : goal.returns-then-not-is_problem_line
returns-then-not-is_problem_line c = no_line (goal.at.returns-then-not-is_problem_line c).After-next_word-more (sym c.is_problem_line.ensures ∙ c.if-not-is_problem_line.true)

pub returns : goal.returns
returns c = is_line (goal.at.returns c).After-next_word-more (sym c.is_problem_line.ensures ∙ c.if-not-is_problem_line.false)
