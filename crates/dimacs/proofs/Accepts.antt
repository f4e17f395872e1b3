-- The reader accepts exactly the texts of the grammar.
use Rattle.std.proofs.Common.{◌≡◌, ℕ, ◌+◌, ◌<◌, ◌≤◌, Bool, true, false, cond, leb, List, [], ◌∷◌, ◌++◌, length, take, drop, ℤ, pos, Some, Ok, Err, Result, sym, refl, ap, ◌∙◌, subst, ⊎_elim, arith}
use Rattle.std.specs.List.{prefix_len}
use Rattle.std.proofs.lemmas.List.{drop-take, take-append-drop, drop-drop, drop_at, take_at, nil_from_length}
use Rattle.std.proofs.lemmas.Bool.{cond-true, cond-false, le-leb, lt-leb, leb-true, le-ltb, and_from, eq-eqb, ne_eqb, cases_lt}
use Rattle.cnf.specs.declared.refusal.Check.TheVariants.{WordsRoom}
use Rattle.cnf.specs.declared.tally.Tally.{Tally}
use Rattle.cnf.specs.Refusals.{refused}
use Rattle.cnf.specs.Tables.{literals_in}
use Rattle.cnf.specs.Scans.{and_then, no_words, closed, table_checked}
use Rattle.cnf.proofs.Legal.{Spells, accepted_is_legal, clauses_spell}
use Rattle.words.specs.declared.faults.ClauseFault.{ClauseFault}
use Rattle.words.specs.declared.faults.HeadFault.TheVariants as head
use Rattle.words.specs.Faults.{head_from_clause}
use Rattle.words.specs.Words.{Token, token, tokens, said_of, letters}
use Rattle.words.proofs.Tokens.{word_tokens}
use Rattle.dimacs.specs.declared.head.Head.{Head}
use Rattle.dimacs.specs.declared.read.Problem.{Problem}
use Rattle.dimacs.specs.Heads.{head_from, in_line, line_end, line_tokens, is_p, is_cnf, problem_of, limited, head_of, head_read}
use Rattle.dimacs.specs.Reads.{clauses_from, numbers_of, as_head, body_tokens, body_tally, found, read_answer, text_words, words_after}
use Rattle.dimacs.specs.Grammar.{Numeral, Numerals, Commented, ProblemLine as Problem_line, Text, problem, ReadsTheGrammar}
use Rattle.dimacs.proofs.Accepted.{ok≢err, both, AreNumbers, Body, body, spells_length, Counts, counts, limited_ok, HeadParts, head_parts}
use Rattle.dimacs.proofs.Worded.{bytes_of, leading_front, worded_tokens, tokens_worded}
use Rattle.dimacs.proofs.Comments.{behind, skips, commented, behind_comments, front_passes, line_stop}
use Rattle.dimacs.proofs.Spelled.{numerals, are_numbers, numbers_are, spells_small, spelled_clauses, tally, Four, four, problem_line_lem, limited_is}

as_head_ok : {A : Type 0} (r : Result A ClauseFault) (x : A) → as_head r ≡ Ok x → r ≡ Ok x
as_head_ok (Ok y) x e = let q : y ≡ x = cc in ap Ok q
as_head_ok (Err f) x e = absurd (ok≢err x (head_from_clause f) e)

found_by : (room : ℕ) (h : Head) (t : Tally) (p : Problem) (b : Bool) → leb (t.literals + t.ended) room ≡ b → cond b (Ok (problem h.variables h.clauses (t.literals + t.ended))) (Err (head.Head (refused WordsRoom 0))) ≡ Ok p → (problem h.variables h.clauses (t.literals + t.ended) ≡ p) × (t.literals + t.ended ≤ room)
found_by room h t p true e f = (cc, leb-true _ room e)
found_by room h t p false e f = absurd (ok≢err p (head.Head (refused WordsRoom 0)) f)

long : (a b : List ℕ) → 0 < length (a ++ (10 ∷ b))
long [] b = omega arith
long (x ∷ a) b = omega arith

-- where the problem line begins, and what follows it
start_rest : (bs : List ℕ) → drop (head_from false 0 bs) bs ≡ behind false bs
start_rest bs =
    let k = skips false 0 bs in
    let e : head_from false 0 bs ≡ k.0 = omega (arith, k.1) in
    ap (λ n. drop n bs) e ∙ k.2

line_tokens_lem : (bs : List ℕ) (s : ℕ) → line_tokens bs s ≡ tokens s (take (prefix_len in_line (drop s bs)) (drop s bs))
line_tokens_lem bs s = ap (tokens s) (drop-take s (prefix_len in_line (drop s bs)) bs)

line_rest : (bs : List ℕ) (s : ℕ) → drop (line_end bs s) bs ≡ drop (prefix_len in_line (drop s bs)) (drop s bs)
line_rest bs s = sym (drop-drop (prefix_len in_line (drop s bs)) s bs)

module _ (bs : List ℕ) (h : Head) (t : Tally) (eh : head_read bs ≡ Ok h) (et : body_tally bs h ≡ Ok t) where
  parts : HeadParts bs h
  parts = head_parts bs h eh

  walked : clauses_from h.variables h.clauses (length bs) no_words (body_tokens bs h) ≡ Ok t
  walked = as_head_ok _ t et

  the_body : Body h.variables h.clauses no_words (body_tokens bs h) t
  the_body = body h.variables h.clauses (length bs) no_words (body_tokens bs h) t walked

  the_counts : Counts (body_tokens bs h) t
  the_counts = counts h.variables h.clauses (length bs) (body_tokens bs h) t walked

  words_are : text_words bs ≡ numbers_of (body_tokens bs h)
  words_are = ap (words_after bs) eh

  -- a clause follows the head
  some_body : 0 < length (drop h.end bs)
  some_body =
      ⊎_elim
      (λ l. l)
      (λ g.
      let z : drop h.end bs ≡ [] = nil_from_length (drop h.end bs) (omega arith) in
      let k = ap (λ l. length (numbers_of (tokens h.end l))) z in
      let n = the_counts.number in
      let c = (limited_ok 1024 parts.clauses_word h.clauses parts.clauses_ok).1 in
      absurd (omega (arith, the_body.exact)))
      (cases_lt 0 (length (drop h.end bs)))

  rest_is : drop h.end bs ≡ drop (prefix_len in_line (drop (head_from false 0 bs) bs)) (drop (head_from false 0 bs) bs)
  rest_is = ap (λ n. drop n bs) (sym parts.end_is) ∙ line_rest bs (head_from false 0 bs)

  stopped : (body : List ℕ) × (drop (prefix_len in_line (drop (head_from false 0 bs) bs)) (drop (head_from false 0 bs) bs) ≡ 10 ∷ body)
  stopped = line_stop (drop (head_from false 0 bs) bs) (subst (λ l. 0 < length l) rest_is some_body)

  split : drop (head_from false 0 bs) bs ≡ take (prefix_len in_line (drop (head_from false 0 bs) bs)) (drop (head_from false 0 bs) bs) ++ (10 ∷ stopped.0)
  split = sym (take-append-drop (prefix_len in_line (drop (head_from false 0 bs) bs)) (drop (head_from false 0 bs) bs)) ∙ ap (λ l. take (prefix_len in_line (drop (head_from false 0 bs) bs)) (drop (head_from false 0 bs) bs) ++ l) stopped.1

  body_tokens_lem : body_tokens bs h ≡ tokens (h.end + 1) stopped.0
  body_tokens_lem = ap (tokens h.end) (rest_is ∙ stopped.1)

  table_ok : table_checked h.variables (numbers_of (body_tokens bs h)) ≡ Ok h.clauses
  table_ok =
      let v = limited_ok 256 parts.variables_word h.variables parts.variables_ok in
      let c = limited_ok 1024 parts.clauses_word h.clauses parts.clauses_ok in
      cond-true _ _ _ (and_from _ _ (le-leb 1 h.variables v.1) (le-leb h.variables 256 v.2))
      ∙ ap (λ r. and_then r (closed (length (numbers_of (body_tokens bs h))))) (the_body.tallies 0)
      ∙ cond-false _ _ _ the_body.closed
      ∙ cond-false _ _ _ (ne_eqb t.ended 0 (λ z. omega (arith, the_body.exact, c.1)))
      ∙ ap Ok the_body.exact

  accepted_text : Text bs h.variables h.clauses (text_words bs)
  accepted_text =
      let rest = commented bs (subst (λ l. 0 < length l) (start_rest bs) (subst (λ l. 0 < length l) (sym split) (long (take (prefix_len in_line (drop (head_from false 0 bs) bs)) (drop (head_from false 0 bs) bs)) stopped.0))) in
      let v = limited_ok 256 parts.variables_word h.variables parts.variables_ok in
      let c = limited_ok 1024 parts.clauses_word h.clauses parts.clauses_ok in
      let f = four (head_from false 0 bs) (line_tokens bs (head_from false 0 bs)) parts.variables_word parts.clauses_word parts.problem in
      let g = subst (λ ts. Four (head_from false 0 bs) ts parts.variables_word parts.clauses_word) (line_tokens_lem bs (head_from false 0 bs)) f in
      let l = accepted_is_legal h.variables (numbers_of (body_tokens bs h)) h.clauses table_ok in
      let made : Text bs h.variables h.clauses (numbers_of (body_tokens bs h)) = record {
        short = parts.short;
        line = take (prefix_len in_line (drop (head_from false 0 bs) bs)) (drop (head_from false 0 bs) bs);
        body = stopped.0;
        comments = subst (Commented bs) (sym (start_rest bs) ∙ split) rest;
        problem = problem_line_lem (head_from false 0 bs) _ parts.variables_word parts.clauses_word h.variables h.clauses (front_passes in_line (drop (head_from false 0 bs) bs)) g v.0 c.0;
        words = bytes_of (tokens (h.end + 1) stopped.0);
        spaced_words = tokens_worded (h.end + 1) stopped.0;
        numbers = subst (λ ks. Numerals (bytes_of ks) (numbers_of (body_tokens bs h))) body_tokens_lem (numerals (body_tokens bs h) (numbers_of (body_tokens bs h)) the_body.numbers);
        table = l.0;
        exact = l.1;
      } in
      subst (Text bs h.variables h.clauses) (sym words_are) made

pub only : (bs : List ℕ) (room : ℕ) (p : Problem) → read_answer bs room ≡ Ok p → Text bs p.variables p.clauses (text_words bs) × (p.words ≡ length (text_words bs)) × (p.words ≤ room)
only bs room p e =
    let a = both (head_read bs) (λ h. and_then (body_tally bs h) (found room h)) p e in
    let b = both (body_tally bs a.0) (found room a.0) p a.2 in
    let f = found_by room a.0 b.0 p (leb (b.0.literals + b.0.ended) room) refl b.2 in
    let q = f.0 in
    let n : p.words ≡ b.0.literals + b.0.ended = ap (λ x. x.words) (sym q) in
    let k = (the_counts bs a.0 b.0 a.1 b.1).number in
    let w = ap length (words_are bs a.0 b.0 a.1 b.1) in
    let t = accepted_text bs a.0 b.0 a.1 b.1 in
    (subst (λ x. Text bs x.variables x.clauses (text_words bs)) q t, omega arith, omega (arith, f.1))

-- four tokens with these bytes
four_tokens : (ts : List Token) (w x y z : List ℕ) → bytes_of ts ≡ w ∷ x ∷ y ∷ z ∷ [] → (a : Token) × (b : Token) × (c : Token) × (d : Token) × (ts ≡ a ∷ b ∷ c ∷ d ∷ []) × (a.bytes ≡ w) × (b.bytes ≡ x) × (c.bytes ≡ y) × (d.bytes ≡ z)
four_tokens [] w x y z e = let n : ◌≡◌ {A = ℕ} 0 1 = cc in absurd (omega arith)
four_tokens (a ∷ []) w x y z e = let n : ◌≡◌ {A = ℕ} 0 1 = cc in absurd (omega arith)
four_tokens (a ∷ b ∷ []) w x y z e = let n : ◌≡◌ {A = ℕ} 0 1 = cc in absurd (omega arith)
four_tokens (a ∷ b ∷ c ∷ []) w x y z e = let n : ◌≡◌ {A = ℕ} 0 1 = cc in absurd (omega arith)
four_tokens (a ∷ b ∷ c ∷ d ∷ []) w x y z e = (a, b, c, d, refl, cc, cc, cc, cc)
four_tokens (a ∷ b ∷ c ∷ d ∷ f ∷ ts) w x y z e = let n : ◌≡◌ {A = ℕ} 0 1 = cc in absurd (omega arith)

first_place : (s : ℕ) (line more : List ℕ) (a : Token) (ts : List Token) → line ≡ 112 ∷ more → tokens s line ≡ a ∷ ts → a.place ≡ s
first_place s line more a ts o e =
    let w = word_tokens s (112 ∷ more) refl in
    let q : token (take (letters (112 ∷ more)) (112 ∷ more)) s ∷ tokens (s + letters (112 ∷ more)) (drop (letters (112 ∷ more)) (112 ∷ more)) ≡ a ∷ ts = sym w ∙ ap (tokens s) (sym o) ∙ e in
    let r : token (take (letters (112 ∷ more)) (112 ∷ more)) s ≡ a = cc in
    sym (ap (λ x. x.place) r)

problem-said : (s : ℕ) (line : List ℕ) (v c : ℕ) (p : Problem_line line v c) → (x : Token) × (y : Token) × (problem_of s (tokens s line) ≡ Some (said_of x, said_of y)) × Numeral x.bytes (pos v) × Numeral y.bytes (pos c)
problem-said s line v c p =
    let f = four_tokens (tokens s line) (112 ∷ []) (99 ∷ 110 ∷ 102 ∷ []) p.variables p.clauses (worded_tokens s p.words) in
    let at = first_place s line p.behind f.0 (f.1 ∷ f.2 ∷ f.3 ∷ []) p.opens f.4 in (
      f.2,
      f.3,
      ap (problem_of s) f.4 ∙ cond-true _ _ _ (and_from _ _ (ap is_p f.5) (and_from _ _ (eq-eqb f.0.place s at) (ap is_cnf f.6))),
      subst (λ w. Numeral w (pos v)) (sym f.7) p.variables_are,
      subst (λ w. Numeral w (pos c)) (sym f.8) p.clauses_are,
    )

module _ (bs : List ℕ) (v c : ℕ) (zs : List ℤ) (x : Text bs v c zs) where
  starts : drop (head_from false 0 bs) bs ≡ x.line ++ (10 ∷ x.body)
  starts = start_rest bs ∙ behind_comments (x.problem.behind ++ (10 ∷ x.body)) x.comments (ap (λ l. l ++ (10 ∷ x.body)) x.problem.opens)

  line_length : prefix_len in_line (drop (head_from false 0 bs) bs) ≡ length x.line
  line_length = ap (prefix_len in_line) starts ∙ leading_front in_line x.line (10 ∷ x.body) x.problem.one_line refl

  line_words : line_tokens bs (head_from false 0 bs) ≡ tokens (head_from false 0 bs) x.line
  line_words =
      line_tokens_lem bs (head_from false 0 bs)
      ∙ ap (λ n. tokens (head_from false 0 bs) (take n (drop (head_from false 0 bs) bs))) line_length
      ∙ ap (λ l. tokens (head_from false 0 bs) (take (length x.line) l)) starts
      ∙ ap (tokens (head_from false 0 bs)) (take_at x.line (10 ∷ x.body) (length x.line) refl)

  ends : drop (line_end bs (head_from false 0 bs)) bs ≡ 10 ∷ x.body
  ends =
      line_rest bs (head_from false 0 bs)
      ∙ ap (λ n. drop n (drop (head_from false 0 bs) bs)) line_length
      ∙ ap (drop (length x.line)) starts
      ∙ drop_at x.line (10 ∷ x.body) (length x.line) refl

  abbrev spelled_head : Head
  spelled_head = record { variables = v; clauses = c; end = line_end bs (head_from false 0 bs) }

  few_clauses : (1 ≤ c) × (c ≤ 1024)
  few_clauses = (omega (arith, x.exact, x.table.number.0), omega (arith, x.exact, x.table.number.1))

  head_is : head_read bs ≡ Ok spelled_head
  head_is =
      let p = problem-said (head_from false 0 bs) x.line v c x.problem in
      cond-false _ _ _ (le-ltb 65535 (length bs) x.short)
      ∙ ap (head_of (head_from false 0 bs) (line_end bs (head_from false 0 bs))) (ap (problem_of (head_from false 0 bs)) line_words ∙ p.2)
      ∙ ap (λ r. and_then r (λ v. and_then (limited 1024 (said_of p.1)) (λ c. Ok (record { variables = v; clauses = c; end = line_end bs (head_from false 0 bs) })))) (limited_is 256 p.0 v p.3 x.table.variables.0 x.table.variables.1 (omega (arith, x.table.variables.1)))
      ∙ ap (λ r. and_then r (λ c. Ok (record { variables = v; clauses = c; end = line_end bs (head_from false 0 bs) }))) (limited_is 1024 p.1 c p.4 few_clauses.0 few_clauses.1 (omega (arith, few_clauses.1)))

  body_is : body_tokens bs spelled_head ≡ tokens (line_end bs (head_from false 0 bs) + 1) x.body
  body_is = ap (tokens (line_end bs (head_from false 0 bs))) ends

  spells : Spells v false zs (length x.table.clauses) (literals_in x.table.clauses)
  spells = subst (λ l. Spells v false l (length x.table.clauses) (literals_in x.table.clauses)) (sym x.table.words) (clauses_spell v x.table.clauses x.table.each)

  are : AreNumbers (body_tokens bs spelled_head) zs
  are =
      let b : bytes_of (body_tokens bs spelled_head) ≡ x.words = ap bytes_of body_is ∙ worded_tokens (line_end bs (head_from false 0 bs) + 1) x.spaced_words in
      are_numbers (body_tokens bs spelled_head) zs (subst (λ l. Numerals l zs) (sym b) x.numbers) (spells_small x.table.variables.1 spells)

  spelled_words : text_words bs ≡ zs
  spelled_words = ap (words_after bs) head_is ∙ numbers_are (body_tokens bs spelled_head) zs are

  tally_is : body_tally bs spelled_head ≡ Ok (tally c (0 + literals_in x.table.clauses) false)
  tally_is = ap as_head (spelled_clauses v c (length bs) no_words (body_tokens bs spelled_head) false are refl spells (omega (arith, x.exact)) few_clauses.1 (omega (arith, x.table.literals)))

  answer_is : (room : ℕ) → read_answer bs room ≡ cond (leb (length zs) room) (Ok (problem v c (length zs))) (Err (head.Head (refused WordsRoom 0)))
  answer_is room =
      let n : 0 + literals_in x.table.clauses + c ≡ length zs = omega (arith, spells_length spells, x.exact) in
      ap (λ r. and_then r (λ h. and_then (body_tally bs h) (found room h))) head_is
      ∙ ap (λ r. and_then r (found room spelled_head)) tally_is
      ∙ ap (λ k. cond (leb k room) (Ok (problem v c k)) (Err (head.Head (refused WordsRoom 0)))) n

pub every : (bs : List ℕ) (room v c : ℕ) (zs : List ℤ) → Text bs v c zs → length zs ≤ room → (read_answer bs room ≡ Ok (problem v c (length zs))) × (text_words bs ≡ zs)
every bs room v c zs x l = (answer_is bs v c zs x room ∙ cond-true _ _ _ (le-leb (length zs) room l), spelled_words bs v c zs x)

full : (bs : List ℕ) (room v c : ℕ) (zs : List ℤ) → Text bs v c zs → room < length zs → read_answer bs room ≡ Err (head.Head (refused WordsRoom 0))
full bs room v c zs x l = answer_is bs v c zs x room ∙ cond-false _ _ _ (lt-leb (length zs) room l)

pub reads_the_grammar : (bs : List ℕ) (room : ℕ) → ReadsTheGrammar bs room
reads_the_grammar bs room = record { only = only bs room; every = every bs room; full = full bs room }
