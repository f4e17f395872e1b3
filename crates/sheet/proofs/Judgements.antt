-- What an accepted table and assignment are.
use Rattle.std.proofs.Common.{◌≡◌, ℕ, ◌+◌, ◌≤◌, Bool, true, false, cond, not, eqb, leb, List, [], ◌∷◌, length, ℤ, is_some, Some, None, Ok, Err, Option, Result, sym, refl, arith}
use Rattle.std.proofs.lemmas.Bool.{leb-true, eqb-true, not-true, not-false}
use Rattle.std.specs.List.{AllByRecursion}
use Rattle.cnf.specs.declared.refusal.Check.TheVariants.{StartValues}
use Rattle.cnf.specs.declared.refusal.Refusal.{Refusal}
use Rattle.cnf.specs.Refusals.{refused}
use Rattle.cnf.specs.Scans.{and_then, bytes_from, table_checked, start_checked, judged}
use Rattle.cnf.specs.Tables.{clauses_of, values_of, first_unsatisfied}
use Rattle.cnf.proofs.Legal.{accepted_is_legal}
use Rattle.sheet.specs.Sheets.{is_none}

abbrev pub Bits : List ℕ → Type 0
Bits bs = AllByRecursion (λ b. b ≤ 1) bs

pub err≢ok : {A E : Type 0} (e : E) (x : A) → ◌≡◌ {A = Result A E} (Err e) (Ok x) → ⊥
err≢ok e x h = let z : ◌≡◌ {A = ℕ} 0 1 = cc in omega arith

bits_by : (i b : ℕ) (bs : List ℕ) (u : Unit) (t : Bool) → leb b 1 ≡ t → (bytes_from (i + 1) bs ≡ Ok u → Bits bs) → cond t (bytes_from (i + 1) bs) (Err (refused StartValues i)) ≡ Ok u → Bits (b ∷ bs)
bits_by i b bs u true e ih h = (leb-true b 1 e, ih h)
bits_by i b bs u false e ih h = absurd (err≢ok (refused StartValues i) u h)

bits_of : (i : ℕ) (bs : List ℕ) (u : Unit) → bytes_from i bs ≡ Ok u → Bits bs
bits_of i [] u h = tt
bits_of i (b ∷ bs) u h = bits_by i b bs u (leb b 1) refl (bits_of (i + 1) bs u) h

start_by : (v : ℕ) (bs : List ℕ) (u : Unit) (t : Bool) → eqb (length bs) v ≡ t → cond t (bytes_from 0 bs) (Err (refused StartValues (length bs))) ≡ Ok u → (length bs ≡ v) × Bits bs
start_by v bs u true e h = (eqb-true (length bs) v e, bits_of 0 bs u h)
start_by v bs u false e h = absurd (err≢ok (refused StartValues (length bs)) u h)

-- the table has 1 to 256 variables, the assignment a byte 0 or 1 for each, and o is the first clause that is not satisfied
pub record Accepted (v : ℕ) (ws : List ℤ) (a : List ℕ) (o : Option ℕ) : Type 0 where
  pub variables : (1 ≤ v) × (v ≤ 256)
  pub long : length a ≡ v
  pub bits : Bits a
  pub named : o ≡ first_unsatisfied (values_of a) 1 (clauses_of ws)

accepted_by : (v : ℕ) (ws : List ℤ) (a : List ℕ) (o : Option ℕ) (t : Result ℕ Refusal) (u : Result Unit Refusal) → table_checked v ws ≡ t → start_checked v a ≡ u → and_then t (λ _. and_then u (λ _. Ok (first_unsatisfied (values_of a) 1 (clauses_of ws)))) ≡ Ok o → Accepted v ws a o
accepted_by v ws a o (Ok n) (Ok u) e f h =
    let l = accepted_is_legal v ws n e in
    let s = start_by v a u (eqb (length a) v) refl f in
    record { variables = l.0.variables; long = s.0; bits = s.1; named = cc }
accepted_by v ws a o (Ok n) (Err r) e f h = absurd (err≢ok r o h)
accepted_by v ws a o (Err r) u e f h = absurd (err≢ok r o h)

pub accepted : (v : ℕ) (ws : List ℤ) (a : List ℕ) (o : Option ℕ) → judged v ws a ≡ Ok o → Accepted v ws a o
accepted v ws a o h = accepted_by v ws a o (table_checked v ws) (start_checked v a) refl refl h

pub said_none : (o : Option ℕ) (b : Bool) → is_some o ≡ not b → b ≡ is_none o
said_none (Some x) b h = not-true b (sym h)
said_none None b h = not-false b (sym h)
