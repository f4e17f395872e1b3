-- New weights for clause after clause.
use Rattle.std.proofs.Common.{◌≡◌, ℕ, zero, suc, ◌+◌, ◌*◌, ◌/◌, ◌^◌, ◌<◌, ◌≤◌, Bool, true, false, cond, eqb, ltb, sym, refl, ap, ◌∙◌, ap₂, mul_assoc, suc-mul, mul_comm, div-mul-le_self, arith}
use Rattle.std.proofs.lemmas.Bool.{eq-eqb, ne_eqb, cond-true, cond-false, lt-ltb, le-ltb}
use Rattle.std.proofs.lemmas.Bool.Decides.{nat_tests}
use Rattle.formula.specs.declared.formula.Formula.{Formula}
use Rattle.formula.specs.Formulas.{clause_count}
use Rattle.formula.specs.Clauses.{sum_to}
use Rattle.formula.proofs.Sums.{at_all, sum_to_same, sum_to_le, sum_to_add, sum_to_const}
use Rattle.table.specs.declared.table.ClauseRow.{ClauseRow}
use Rattle.table.specs.declared.table.Table.{Table}
use Rattle.table.specs.Rows.{clause_at, weight_at, count_at, gained, eased_at, reweighted}
use Rattle.table.specs.Sound.{Reweighed, Weighing}

-- a mix of two weightings weighs less than both together
pub mix_le : (n i : ℕ) (W V : ℕ → ℕ) → sum_to n (λ k. cond (ltb k i) (V k) (W k)) ≤ sum_to n W + sum_to n V
mix_le n i W V = omega (arith, sum_to_le n (λ k. cond (ltb k i) (V k) (W k)) (λ k. W k + V k) (λ k _. go (ltb k i) (V k) (W k)), sum_to_add n W V)
  where
    go : (b : Bool) (x y : ℕ) → cond b x y ≤ y + x
    go true x y = omega arith
    go false x y = omega arith

-- the weight of clause i is next
next_mix : (V : ℕ → ℕ) (W U : ℕ → ℕ) (i w : ℕ) → w ≡ V i → ((k : ℕ) → U k ≡ cond (ltb k i) (V k) (W k)) → (k : ℕ) → reweighted U i w k ≡ cond (ltb k (i + 1)) (V k) (W k)
next_mix V W U i w e h =
    at_all (λ k. reweighted U i w k ≡ cond (ltb k (i + 1)) (V k) (W k)) i
    (cond-true _ _ _ (eq-eqb i i refl) ∙ (e ∙ sym (cond-true _ _ _ (lt-ltb i (i + 1) (omega arith)))))
    (λ k ne. cond-false _ _ _ (ne_eqb k i ne) ∙ (h k ∙ ap (λ b. cond b (V k) (W k)) (later k ne)))
  where
    later : (k : ℕ) → (k ≡ i → ⊥) → ltb k i ≡ ltb k (i + 1)
    later k ne = grind (arith, nat_tests)

pub weighing_light : (f : Formula) (V : ℕ → ℕ) (i w : ℕ) (t u : Table) → w ≡ V i → Weighing f V i t u → sum_to (clause_count f) (weight_at t) + sum_to (clause_count f) V < 2 ^ 40 → sum_to (clause_count f) (reweighted (weight_at u) i w) < 2 ^ 40
weighing_light f V i w t u e h l =
    omega (arith, sum_to_same (clause_count f) (reweighted (weight_at u) i w) (λ k. cond (ltb k (i + 1)) (V k) (weight_at t k)) (λ k _. next_mix V (weight_at t) (weight_at u) i w e h.weights k), mix_le (clause_count f) (i + 1) (weight_at t) V)

pub weighing_more : (f : Formula) (V : ℕ → ℕ) (i w : ℕ) (t u v : Table) → w ≡ V i → Weighing f V i t u → Reweighed f i w u v → Weighing f V (i + 1) t v
weighing_more f V i w t u v e h r =
    record {
      sound = r.sound;
      values = λ y. r.values y ∙ h.values y;
      stamps = λ y. r.stamps y ∙ h.stamps y;
      weights = λ k. r.weights k ∙ next_mix V (weight_at t) (weight_at u) i w e h.weights k;
      counts = λ k. r.counts k ∙ h.counts k;
      ticks = r.ticks ∙ h.ticks;
    }

-- what a turn reads of clause i is what it was
pub weighing_now : (f : Formula) (V : ℕ → ℕ) (i : ℕ) (t u : Table) → Weighing f V i t u → weight_at u i ≡ weight_at t i
weighing_now f V i t u h = h.weights i ∙ cond-false _ _ _ (le-ltb i i (omega arith))

pub row_now : (f : Formula) (V : ℕ → ℕ) (i : ℕ) (t u : Table) → Weighing f V i t u → clause_at u i ≡ clause_at t i
row_now f V i t u h =
    let row : ℕ → ℕ → ClauseRow = λ w n. record { weight = w; count = n } in
    ap₂ row (weighing_now f V i t u h) (h.counts i)

pub gained_light : (n : ℕ) (t : Table) → sum_to n (gained t) ≤ sum_to n (weight_at t) + n
gained_light n t = omega (arith, sum_to_le n (gained t) (λ k. weight_at t k + 1) (λ k _. go (eqb (count_at t k) 0) (weight_at t k)), sum_to_add n (weight_at t) (λ _. 1), sum_to_const n 1)
  where
    go : (b : Bool) (w : ℕ) → w + cond b 1 0 ≤ w + 1
    go true w = omega arith
    go false w = omega arith

-- smoothing does not raise the sum
pub tenths : (n : ℕ) (W : ℕ → ℕ) → 10 * sum_to n (λ k. 3 * W k / 10) ≤ 3 * sum_to n W
tenths zero W = omega arith
tenths (suc n) W = omega (arith, tenths n W)

pub eased_light : (n : ℕ) (t : Table) (share : ℕ) → sum_to n (eased_at t share) ≤ sum_to n (weight_at t) + n * share
eased_light n t share = omega (arith, sum_to_add n (λ k. 3 * weight_at t k / 10) (λ _. share), sum_to_const n share, tenths n (weight_at t))

-- what smoothing gives to all clauses together is at most the sum
pub shares_le : (n s : ℕ) → n * (7 * s / (10 * n)) ≤ s
shares_le n s =
    let q = 7 * s / (10 * n) in
    let d : q * (10 * n) ≤ 7 * s = div-mul-le_self (7 * s) (10 * n) in
    let e : q * (10 * n) ≡ 10 * (n * q) = mul_comm q (10 * n) ∙ mul_assoc 10 n q in
    omega arith

pub share_le : (n s : ℕ) → 0 < n → 7 * s / (10 * n) ≤ s
share_le zero s p = absurd (omega arith)
share_le (suc n) s p = omega (arith, shares_le (suc n) s, suc-mul n (7 * s / (10 * suc n)))
