-- How the clauses of a text step, word by word.
use Rattle.std.proofs.Common.{◌≡◌, ℕ, ◌+◌, ◌<◌, Bool, true, false, cond, leb, ℤ, Ok, Err, Result, ap, arith}
use Rattle.std.proofs.lemmas.Bool.{leb-false}
use Rattle.cnf.specs.declared.refusal.Check.{Check}
use Rattle.cnf.specs.declared.refusal.Check.TheVariants.{ClauseCount}
use Rattle.cnf.specs.declared.tally.Tally.{Tally}
use Rattle.cnf.specs.Refusals.{refused}
use Rattle.cnf.specs.Scans.{tallied}
use Rattle.words.specs.declared.faults.ClauseFault.TheVariants.{Rule}
use Rattle.dimacs.specs.Reads.{by_rule}

ok≢err : {A E : Type 0} (x : A) (e : E) → ◌≡◌ {A = Result A E} (Err e) (Ok x) → ⊥
ok≢err x e p = let z : ◌≡◌ {A = ℕ} 0 1 = cc in omega arith

by_rule_ok : (p n : ℕ) (r : Result Tally Check) (u : Tally) → by_rule r p n ≡ Ok u → r ≡ Ok u
by_rule_ok p n (Ok t) u e = let q : t ≡ u = cc in ap Ok q
by_rule_ok p n (Err k) u e = absurd (ok≢err u (Rule (refused k p) n) e)

pub taken_parts : (v c p : ℕ) (t : Tally) (z : ℤ) (u : Tally) (b : Bool) → leb c t.ended ≡ b → cond b (Err (Rule (refused ClauseCount p) (t.ended + 1))) (by_rule (tallied v t z) p (t.ended + 1)) ≡ Ok u → (t.ended < c) × (tallied v t z ≡ Ok u)
taken_parts v c p t z u true e h = absurd (ok≢err u (Rule (refused ClauseCount p) (t.ended + 1)) h)
taken_parts v c p t z u false e h = (leb-false c t.ended e, by_rule_ok p (t.ended + 1) (tallied v t z) u h)
