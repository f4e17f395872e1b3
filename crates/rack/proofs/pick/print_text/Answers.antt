use Rattle.std.proofs.Common.{◌≡◌, length, take, Ok, sym, ap, ◌∙◌, subst, arith}
use Rattle.cnf.specs.Tables.{Legal}
use Rattle.dimacs.specs.Reads.{read_answer, text_words}
use Rattle.rack.specs.Answers.{sheet_for, sheet_of}
use Rattle.rack.proofs.Answers.{read_words}
use Rattle.rack.proofs.pick.print_text.Goals as goal
use Rattle.rack.proofs.pick.print_text.Goals.{In_ok-problem}

accepted : (c : In_ok-problem) → read_answer c.args.text.now (length c.args.words.now) ≡ Ok c.in_ok-problem.problem
accepted c = sym c.read.ensures.answer ∙ c.in_ok-problem.was

spelled : (c : In_ok-problem) → take c.in_ok-problem.problem.words c.read.new.words ≡ text_words c.args.text.now
spelled c = ap (take c.in_ok-problem.problem.words) c.read.ensures.table ∙ read_words c.args.text.now c.args.words.now c.in_ok-problem.problem (accepted c) (c.read.ensures.grammar.only c.in_ok-problem.problem (accepted c)).1

pub print_found-requires : goal.print_found-requires
print_found-requires c =
    let k = (goal.at.print_found-requires c).In_ok-problem in
    let g = c.read.ensures.grammar.only c.in_ok-problem.problem (accepted k) in
    record { room = omega (arith, g.2, c.read.auto.words); table = subst (Legal c.in_ok-problem.problem.variables) (sym (spelled k)) g.0.table }

pub returns-clause-whole : goal.returns-clause-whole
returns-clause-whole c =
    let k = (goal.at.returns-clause-whole c).In_ok-problem in
    λ w t v.
    c.print_found.ensures.whole t v
    ∙ ap (λ ws. sheet_for c.in_ok-problem.problem.variables ws c.args.out.now) (spelled k)
    ∙ ap (λ r. sheet_of c.args.text.now r c.args.out.now) (sym (accepted k) ∙ ap (read_answer c.args.text.now) w)
