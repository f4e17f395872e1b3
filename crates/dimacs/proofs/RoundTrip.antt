-- A table written out and read back is that table.
use Rattle.std.proofs.Common.{◌≡◌, ℕ, ◌+◌, ◌*◌, ◌^◌, ◌<◌, ◌≤◌, Bool, true, false, cond, List, [], ◌∷◌, ◌++◌, length, ℤ, pos, nat_abs, Ok, codes, decimal, sym, refl, ap, ◌∙◌, subst, append_assoc, append-nil, arith, length-append}
use Rattle.std.specs.List.{AllByRecursion}
use Rattle.std.specs.Fmt.{signed_decimal}
use Rattle.std.proofs.lemmas.Fmt.{length-decimal-le}
use Rattle.std.proofs.ByRecursion.{All-append}
use Rattle.cnf.specs.Tables.{is_zero, Legal, literals_in, clauses_of}
use Rattle.cnf.specs.Scans.{table_checked}
use Rattle.cnf.proofs.Legal.{Spells, done, literal, stop, accepted_is_legal, legal_is_accepted, clauses_spell}
use Rattle.words.specs.Words.{white}
use Rattle.dimacs.specs.declared.read.Problem.{Problem}
use Rattle.dimacs.specs.Heads.{in_line}
use Rattle.dimacs.specs.Reads.{read_answer, text_words}
use Rattle.dimacs.specs.Grammar.{Worded, blank, spaced, Numerals, no_comment, ProblemLine, Text, problem}
use Rattle.dimacs.specs.Writes.{head_line, table_text, piece, words_text}
use Rattle.dimacs.specs.RoundTrips.{ReadsBack, WritesBack}
use Rattle.dimacs.proofs.Worded.{white-onto}
use Rattle.dimacs.proofs.Accepts.{only, every}
use Rattle.dimacs.proofs.Writing.{length-piece, text_is, text_length}
use Rattle.dimacs.proofs.Decimals.{decimal-dark, decimal_in_line, decimal_nonempty, plain_numeral, signed_numeral, signed_dark, signed_nonempty, signed_short}

abbrev written : List ℤ → List (List ℕ)
written [] = []
written (z ∷ zs) = signed_decimal z ∷ written zs

small : {v : ℕ} {b : Bool} {zs : List ℤ} {n k : ℕ} → v ≤ 256 → Spells v b zs n k → AllByRecursion (λ z. nat_abs z ≤ 256) zs
small l done = tt
small l (literal h s) = (omega (arith, h.1), small l s)
small l (stop s) = (omega arith, small l s)

-- the byte behind a word is white space
behind_white : (b : Bool) → white (cond b 10 32) ≡ true
behind_white true = refl
behind_white false = refl

body_worded : (zs : List ℤ) → AllByRecursion (λ z. nat_abs z ≤ 256) zs → Worded (words_text zs) (written zs)
body_worded [] h = blank [] tt
body_worded (z ∷ zs) h =
    let w = behind_white (is_zero z) in
    subst (λ l. Worded l (signed_decimal z ∷ written zs)) (sym (append_assoc (signed_decimal z) (cond (is_zero z) 10 32 ∷ []) (words_text zs))) (spaced [] (signed_decimal z) (cond (is_zero z) 10 32 ∷ words_text zs) tt (signed_nonempty z h.0) (signed_dark z h.0) w (white-onto (cond (is_zero z) 10 32) w (body_worded zs h.1)))

body_numerals : (zs : List ℤ) → AllByRecursion (λ z. nat_abs z ≤ 256) zs → Numerals (written zs) zs
body_numerals [] h = tt
body_numerals (z ∷ zs) h = (signed_numeral z h.0, body_numerals zs h.1)

body_short : {v : ℕ} {b : Bool} {zs : List ℤ} {n k : ℕ} → v ≤ 256 → Spells v b zs n k → length (words_text zs) ≤ 5 * k + 2 * n
body_short l done = omega arith
body_short l (literal {w} {ws} {n} {k} h s) =
    let a = length-append (piece w) (words_text ws) in
    omega (arith, length-piece w, signed_short w (omega (arith, h.1)), body_short l s)
body_short l (stop {ws} {n} {k} s) =
    let a = length-append (piece (pos 0)) (words_text ws) in
    let d = length-decimal-le 1 0 (omega arith) (omega arith) (omega arith) in
    omega (arith, length-piece (pos 0), body_short l s)

abbrev line : ℕ → ℕ → List ℕ
line v c = codes "p cnf " ++ (decimal v ++ (32 ∷ (decimal c ++ [])))

line_text_lem : (v c : ℕ) (body : List ℕ) → head_line v c ++ body ≡ line v c ++ (10 ∷ body)
line_text_lem v c body = simp (append_assoc, append-nil)

line_in_line : (v c : ℕ) → v < 2 ^ 64 → c < 2 ^ 64 → AllByRecursion (λ b. in_line b ≡ true) (line v c)
line_in_line v c hv hc =
    let rest = All-append (λ b. in_line b ≡ true) (decimal v) (32 ∷ (decimal c ++ [])) (decimal_in_line v hv) (refl, All-append (λ b. in_line b ≡ true) (decimal c) [] (decimal_in_line c hc) tt) in
    (refl, (refl, (refl, (refl, (refl, (refl, rest))))))

line_worded : (v c : ℕ) → v < 2 ^ 64 → c < 2 ^ 64 → Worded (line v c) ((112 ∷ []) ∷ (99 ∷ 110 ∷ 102 ∷ []) ∷ decimal v ∷ decimal c ∷ [])
line_worded v c hv hc =
    let last = spaced (32 ∷ []) (decimal c) [] (refl, tt) (decimal_nonempty c hc) (decimal-dark c hc) tt (blank [] tt) in
    let third = spaced (32 ∷ []) (decimal v) (32 ∷ (decimal c ++ [])) (refl, tt) (decimal_nonempty v hv) (decimal-dark v hv) refl last in
    let second = spaced (32 ∷ []) (99 ∷ 110 ∷ 102 ∷ []) (32 ∷ (decimal v ++ (32 ∷ (decimal c ++ [])))) (refl, tt) (omega arith) (refl, (refl, (refl, tt))) refl third in
    spaced [] (112 ∷ []) (32 ∷ 99 ∷ 110 ∷ 102 ∷ 32 ∷ (decimal v ++ (32 ∷ (decimal c ++ [])))) tt (omega arith) (refl, tt) refl second

problem-written : (v c : ℕ) → 0 < v → v < 2 ^ 64 → 0 < c → c < 2 ^ 64 → ProblemLine (line v c) v c
problem-written v c pv hv pc hc = record {
  one_line = line_in_line v c hv hc;
  behind = 32 ∷ 99 ∷ 110 ∷ 102 ∷ 32 ∷ (decimal v ++ (32 ∷ (decimal c ++ [])));
  opens = refl;
  variables = decimal v;
  clauses = decimal c;
  words = line_worded v c hv hc;
  variables_are = plain_numeral v pv hv;
  clauses_are = plain_numeral c pc hc;
}

module _ (v : ℕ) (ws : List ℤ) (c : ℕ) (e : table_checked v ws ≡ Ok c) where
  legal : Legal v ws
  legal = (accepted_is_legal v ws c e).0

  exact : length legal.clauses ≡ c
  unfolding legal
  exact = (accepted_is_legal v ws c e).1

  spells : Spells v false ws (length legal.clauses) (literals_in legal.clauses)
  spells = subst (λ l. Spells v false l (length legal.clauses) (literals_in legal.clauses)) (sym legal.words) (clauses_spell v legal.clauses legal.each)

  head_short : length (head_line v c) ≤ 15
  head_short =
      let a = length-decimal-le 3 v (omega arith) (omega (arith, legal.variables.1)) (omega (arith, legal.variables.1)) in
      let b = length-decimal-le 4 c (omega arith) (omega (arith, exact, legal.number.1)) (omega (arith, exact, legal.number.1)) in
      simp length-append (omega arith)

  pub text_short : length (table_text v (clauses_of ws)) ≤ 22543
  text_short = omega (arith, text_length v ws c e, head_short, body_short legal.variables.1 spells, legal.number.1, legal.literals)

  spelled_text : Text (table_text v (clauses_of ws)) v c ws
  spelled_text =
      let few = small legal.variables.1 spells in
      let t : table_text v (clauses_of ws) ≡ line v c ++ (10 ∷ words_text ws) = sym (text_is v ws c e) ∙ line_text_lem v c (words_text ws) in
      let made : Text (line v c ++ (10 ∷ words_text ws)) v c ws = record {
        short = subst (λ l. length l ≤ 65535) t (omega (arith, text_short));
        line = line v c;
        body = words_text ws;
        comments = no_comment;
        problem = problem-written v c (omega (arith, legal.variables.0)) (omega (arith, legal.variables.1)) (omega (arith, exact, legal.number.0)) (omega (arith, exact, legal.number.1));
        words = written ws;
        spaced_words = body_worded ws few;
        numbers = body_numerals ws few;
        table = legal;
        exact = exact;
      } in
      subst (λ l. Text l v c ws) (sym t) made

  pub back : (room : ℕ) → length ws ≤ room → (read_answer (table_text v (clauses_of ws)) room ≡ Ok (problem v c (length ws))) × (text_words (table_text v (clauses_of ws)) ≡ ws)
  back room h = every (table_text v (clauses_of ws)) room v c ws spelled_text h

pub reads_back : (v : ℕ) (ws : List ℤ) → ReadsBack v ws
reads_back v ws = record { short = λ c e. text_short v ws c e; same = λ c room e h. back v ws c e room h }

module _ (bs : List ℕ) (room : ℕ) (p : Problem) (e : read_answer bs room ≡ Ok p) where
  pub read_table_lem : table_checked p.variables (text_words bs) ≡ Ok p.clauses
  read_table_lem = let o = only bs room p e in legal_is_accepted p.variables (text_words bs) o.0.table ∙ ap Ok o.0.exact

  pub read_again : (read_answer (table_text p.variables (clauses_of (text_words bs))) room ≡ Ok p) × (text_words (table_text p.variables (clauses_of (text_words bs))) ≡ text_words bs)
  read_again =
      let o = only bs room p e in
      let b = back p.variables (text_words bs) p.clauses read_table_lem room (omega (arith, o.1, o.2)) in
      (b.0 ∙ ap (λ n. Ok (problem p.variables p.clauses n)) (sym o.1), b.1)

pub writes_back : (bs : List ℕ) (room : ℕ) → WritesBack bs room
writes_back bs room = record { accepted = read_table_lem bs room; same = read_again bs room }
