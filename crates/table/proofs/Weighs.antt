-- A whole weighing.
use Rattle.std.proofs.Common.{◌≡◌, ℕ, ◌+◌, ◌*◌, ◌/◌, ◌^◌, ◌<◌, ◌≤◌, Bool, true, false, cond, ltb, leb, sym, ap, ◌∙◌, ap₂, mul_assoc, mul_comm, mul-zero, zero-mul, div-mul-le_self, arith}
use native.Mathlib.Nat.{zero-div}
use Rattle.std.proofs.lemmas.Bool.{cond-true, cond-false, lt-ltb, le-ltb}
use Rattle.formula.specs.declared.formula.Formula.{Formula}
use Rattle.formula.specs.Clauses.{sum_to}
use Rattle.formula.specs.Formulas.{clause_count}
use Rattle.formula.proofs.Sums.{sum_to_same}
use Rattle.table.specs.declared.table.Table.{Table}
use Rattle.table.specs.Weights.{share_of}
use Rattle.table.specs.Rows.{weight_at, gained, eased_at}
use Rattle.table.specs.Sound.{Sound, Weighing, Weighed}
use Rattle.table.proofs.Weighings.{gained_light, share_le}

no_share : (n s : ℕ) → 0 * s / (10 * n) ≡ 0
no_share n s = ap (λ k. k / (10 * n)) (zero-mul s) ∙ zero-div (10 * n)

ten : (b : Bool) (n s : ℕ) → 10 * (n * (cond b 0 7 * s / (10 * n))) ≤ 7 * s
ten true n s = let e : n * (0 * s / (10 * n)) ≡ 0 = ap (λ k. n * k) (no_share n s) ∙ mul-zero n in omega arith
ten false n s =
    let q = 7 * s / (10 * n) in
    let d : q * (10 * n) ≤ 7 * s = div-mul-le_self (7 * s) (10 * n) in
    let e : q * (10 * n) ≡ 10 * (n * q) = mul_comm q (10 * n) ∙ mul_assoc 10 n q in
    omega arith

pub ten_shares : (v n s : ℕ) → 10 * (n * share_of v n s) ≤ 7 * s
ten_shares v n s = ten (leb n (15 * v)) n s

quot_small : (b : Bool) (n s : ℕ) → 0 < n → cond b 0 7 * s / (10 * n) ≤ s
quot_small true n s p = omega (arith, no_share n s)
quot_small false n s p = share_le n s p

-- what smoothing gives to all clauses together is at most the sum
pub share_sum : (v n s : ℕ) → n * share_of v n s ≤ s
share_sum v n s = omega (arith, ten_shares v n s)

pub share_small : (v n s : ℕ) → 0 < n → share_of v n s ≤ s
share_small v n s p = quot_small (leb n (15 * v)) n s p

module _ (f : Formula) (t u : Table) (s : Sound f t) (small : t.total < 2 ^ 30) (w : Weighing f (gained t) (clause_count f) t u) where
  gained_is : (k : ℕ) → k < clause_count f → weight_at u k ≡ gained t k
  gained_is k l = w.weights k ∙ cond-true _ _ _ (lt-ltb k (clause_count f) l)

  sum_is : sum_to (clause_count f) (weight_at u) ≡ sum_to (clause_count f) (gained t)
  sum_is = sum_to_same (clause_count f) (weight_at u) (gained t) gained_is

  pub total_is : u.total ≡ sum_to (clause_count f) (gained t)
  total_is = w.sound.totals ∙ sum_is

  pub gained_small : sum_to (clause_count f) (weight_at u) < 2 ^ 31
  gained_small = omega (arith, sum_is, gained_light (clause_count f) t, f.made.few_clauses, s.totals)

  pub unsmoothed : u.total ≤ 300 * clause_count f → Weighed f t u
  unsmoothed h =
      let n : ltb (300 * clause_count f) (sum_to (clause_count f) (gained t)) ≡ false = le-ltb _ _ (omega (arith, total_is)) in
      record {
        sound = w.sound;
        values = w.values;
        stamps = w.stamps;
        weights = λ k l. gained_is k l ∙ sym (cond-false _ _ _ n);
        ticks = w.ticks;
      }

  pub smoothed : (share : ℕ) (v : Table) → 300 * clause_count f < u.total → share ≡ share_of f.variables (clause_count f) u.total → Weighing f (eased_at u share) (clause_count f) u v → Weighed f t v
  smoothed share v h e x =
      let n : ltb (300 * clause_count f) (sum_to (clause_count f) (gained t)) ≡ true = lt-ltb _ _ (omega (arith, total_is)) in
      let q : share ≡ share_of f.variables (clause_count f) (sum_to (clause_count f) (gained t)) = e ∙ ap (share_of f.variables (clause_count f)) total_is in
      record {
        sound = x.sound;
        values = λ y. x.values y ∙ w.values y;
        stamps = λ y. x.stamps y ∙ w.stamps y;
        weights = λ k l. x.weights k ∙ (cond-true _ _ _ (lt-ltb k (clause_count f) l) ∙ (ap₂ (λ a b. 3 * a / 10 + b) (gained_is k l) q ∙ sym (cond-true _ _ _ n)));
        ticks = x.ticks ∙ w.ticks;
      }
