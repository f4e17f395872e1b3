-- The start of a search.
use Rattle.std.proofs.Common.{◌≡◌, ℕ, ◌<◌, Bool, true, false, cond, eqb, List, length, get_or, pos, ◌-ℤ◌, sym, refl, ap, ◌∙◌, ap₂, mul-zero, arith}
use Rattle.std.proofs.lemmas.Bool.{eq-eqb, or_left, cond-true, lt-ltb}
use Rattle.formula.specs.declared.formula.Formula.{Formula}
use Rattle.formula.specs.Clauses.{sum_to, flip_at}
use Rattle.formula.specs.Entries.{count}
use Rattle.formula.specs.Formulas.{clause_count, entries_of}
use Rattle.formula.proofs.Sums.{sum_to_same, sum_to_const}
use Rattle.table.specs.declared.table.Row.{Row}
use Rattle.table.specs.declared.table.Table.{Table}
use Rattle.table.specs.Rows.{loss, cost_in, loss_at, row_at, value_at, stamp_at, weight_at, rules_of, row_from}
use Rattle.table.specs.Sound.{Sound, Weighing, Counted, Begun}

pub no_weight : (f : Formula) (W : ℕ → ℕ) → ((k : ℕ) → k < clause_count f → W k ≡ 0) → sum_to (clause_count f) W ≡ 0
no_weight f W h = sum_to_same (clause_count f) W (λ _. 0) h ∙ (sum_to_const (clause_count f) 0 ∙ mul-zero (clause_count f))

module _ (f : Formula) (start : List ℕ) (t : Table) (n : length start ≡ f.variables) (is : (k : ℕ) → k < length start → row_at t k ≡ row_from (get_or start k 0)) (h : Counted f (clause_count f) t) (c0 : t.cost ≡ 0) (s0 : t.total ≡ 0) (t0 : t.tick ≡ 0) where
  row : (y : ℕ) → y < f.variables → row_at t y ≡ row_from (get_or start y 0)
  row y l = is y (omega arith)

  no_cost : (a : ℕ → Bool) → cost_in (rules_of f t) a ≡ 0
  no_cost a = sum_to_same (clause_count f) (loss (rules_of f t) a) (λ _. 0) (λ k m. ap (λ w. loss_at w a (entries_of f k)) (h.weights k m) ∙ both (eqb (count a (entries_of f k)) 0)) ∙ (sum_to_const (clause_count f) 0 ∙ mul-zero (clause_count f))
    where
      both : (b : Bool) → cond {A = ℕ} b 0 0 ≡ 0
      both true = refl
      both false = refl

  pub sound_begin : Sound f t
  sound_begin =
      record {
        light = omega (arith, (no_weight f (weight_at t) h.weights));
        counts = h.counts;
        scores = λ y l. ap (λ (r : Row). r.score) (row y l) ∙ sym (ap₂ (λ m n. pos m -ℤ pos n) (no_cost (value_at t)) (no_cost (flip_at y (value_at t))));
        costs = c0 ∙ sym (no_cost (value_at t));
        totals = s0 ∙ sym (no_weight f (weight_at t) h.weights);
        marks = λ y l. ap (λ (r : Row). r.changed) (row y l) ∙ sym (or_left _ _ (eq-eqb (stamp_at t y) 0 (ap (λ (r : Row). r.stamp) (row y l))));
        stamps = λ y l. omega (arith, ap (λ (r : Row). r.stamp) (row y l));
      }

  pub begun : (u : Table) → Weighing f (λ _. 1) (clause_count f) t u → Begun f start u
  begun u w =
      record {
        sound = w.sound;
        values = λ y l. w.values y ∙ ap (λ (r : Row). r.value) (row y l);
        stamps = λ y l. w.stamps y ∙ ap (λ (r : Row). r.stamp) (row y l);
        weights = λ k l. w.weights k ∙ cond-true _ _ _ (lt-ltb k (clause_count f) l);
        ticks = w.ticks ∙ t0;
      }
