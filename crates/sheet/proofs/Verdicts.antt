-- The second line of a sheet is its verdict.
use Rattle.std.proofs.Common.{◌≡◌, ℕ, ◌+◌, ◌%◌, ◌^◌, ◌<◌, Bool, true, false, List, [], ◌∷◌, ◌++◌, ℤ, Some, None, codes, decimal, Option, sym, refl, ap, ◌∙◌, append_assoc, arith}
use Rattle.std.proofs.lemmas.Fmt.{decimal_by_steps}
use Rattle.std.proofs.lemmas.Bool.{cond-false, ne_eqb}
use Rattle.cnf.specs.Promises.{NamesFirstBroken}
use Rattle.cnf.specs.Tables.{clauses_of, values_of, first_unsatisfied}
use Rattle.sheet.specs.Promises.{all_hold, Tells}
use Rattle.sheet.specs.Sheets.{is_none}
use Rattle.sheet.specs.Texts.{verdict, head_text, first_line, after_line, second_line}

abbrev Skipped : ℕ → List ℕ → Type 0
Skipped n ds = (rest : List ℕ) → after_line (ds ++ rest) ≡ after_line rest

digit : (d : ℕ) (rest : List ℕ) → after_line ((48 + d) ∷ rest) ≡ after_line rest
digit d rest = cond-false _ _ _ (ne_eqb (48 + d) 10 (λ e. omega arith))

digits : (n : ℕ) → n < 2 ^ 64 → Skipped n (decimal n)
digits n h =
    decimal_by_steps Skipped (λ d l rest. digit d rest)
    (λ d ds l before rest. ap after_line (append_assoc ds ((48 + d % 10) ∷ []) rest) ∙ before ((48 + d % 10) ∷ rest) ∙ digit (d % 10) rest) n h

abbrev verdict_line : Bool → List ℕ
verdict_line true = codes "s SATISFIABLE"
verdict_line false = codes "s UNKNOWN"

at_verdict : (sat : Bool) (rest : List ℕ) → first_line (after_line (verdict sat ++ rest)) ≡ verdict_line sat
at_verdict true rest = refl
at_verdict false rest = refl

pub second_line_lem : (steps dives : ℕ) (sat : Bool) (rest : List ℕ) → steps < 2 ^ 64 → dives < 2 ^ 64 → second_line (head_text steps dives sat ++ rest) ≡ verdict_line sat
second_line_lem steps dives sat rest hs hd =
    ap first_line
    (ap after_line (append_assoc (decimal steps) (codes " dives " ++ (decimal dives ++ verdict sat)) rest)
    ∙ digits steps hs ((codes " dives " ++ (decimal dives ++ verdict sat)) ++ rest)
    ∙ ap after_line (append_assoc (decimal dives) (verdict sat) rest)
    ∙ digits dives hd (verdict sat ++ rest))
    ∙ at_verdict sat rest

lines_differ : codes "s UNKNOWN" ≡ codes "s SATISFIABLE" → ⊥
lines_differ e = let z : ◌≡◌ {A = ℕ} 0 1 = cc in omega arith

some≢none : (k : ℕ) → ◌≡◌ {A = Option ℕ} (Some k) None → ⊥
some≢none k e = let z : ◌≡◌ {A = ℕ} 0 1 = cc in omega arith

tells_by : (ws : List ℤ) (a bytes : List ℕ) (o : Option ℕ) → first_unsatisfied (values_of a) 1 (clauses_of ws) ≡ o → NamesFirstBroken (values_of a) (clauses_of ws) → second_line bytes ≡ verdict_line (is_none o) → Tells ws a bytes
tells_by ws a bytes None e names s = record { only = λ _. names.none_only e; every = λ _. s; unknown = λ no_way. absurd (no_way (names.none_only e)) }
tells_by ws a bytes (Some k) e names s = record { only = λ t. absurd (lines_differ (sym s ∙ t)); every = λ all. absurd (some≢none k (sym e ∙ names.none_every all)); unknown = λ _. s }

-- bytes that begin with the head of a sheet tell whether every clause is satisfied
pub head_tells : (steps dives : ℕ) (ws : List ℤ) (a rest : List ℕ) → steps < 2 ^ 64 → dives < 2 ^ 64 → NamesFirstBroken (values_of a) (clauses_of ws) → Tells ws a (head_text steps dives (all_hold ws a) ++ rest)
head_tells steps dives ws a rest hs hd names =
    tells_by ws a (head_text steps dives (all_hold ws a) ++ rest) (first_unsatisfied (values_of a) 1 (clauses_of ws)) refl names (second_line_lem steps dives (all_hold ws a) rest hs hd)
