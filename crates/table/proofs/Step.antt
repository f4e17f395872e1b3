-- One clause's revision, for the table as a whole.
use Rattle.std.proofs.Common.{◌≡◌, ℕ, ◌+◌, ◌^◌, ◌<◌, ◌≤◌, Bool, true, false, cond, not, ◌&&◌, ◌||◌, eqb, ltb, length, get_or, ◌+ℤ◌, sym, refl, ap, ◌∙◌, subst, ap₂, arith}
use mathlib.Core.Path.{fun_ext}
use Rattle.std.proofs.lemmas.Int.{ints}
use Rattle.std.proofs.lemmas.Bool.{eq-eqb, eqb-true, cond-true, cond-false, cond_both, lt-ltb, le-ltb}
use Rattle.std.proofs.lemmas.List.{get_or-set_same, get_or-set_other, length-take}
use Rattle.std.proofs.lemmas.Bool.Decides.{nat_tests}
use Rattle.formula.specs.declared.formula.Formula.{Formula}
use Rattle.formula.specs.Clauses.{sum_to, flip_at}
use Rattle.formula.specs.Entries.{count, named_in}
use Rattle.formula.specs.Formulas.{clause_count, entries_of}
use Rattle.formula.proofs.Sums.{at_all, sum_to_term}
use Rattle.formula.proofs.Counts.{count_absent, named_small}
use Rattle.table.specs.declared.table.Row.{Row}
use Rattle.table.specs.declared.table.ClauseRow.{ClauseRow}
use Rattle.table.specs.declared.table.Table.{Table}
use Rattle.table.specs.Rows.{Rules, loss, loss_at, turn, Within, row0, clause0, row_at, value_at, score_at, changed_at, weight_at, count_at, rules_of, rules_with, owed, Settled}
use Rattle.table.specs.Sound.{cost_between, score_between, Midway, Turned, Revised}
use Rattle.table.proofs.Shares.{cost_more, score_more, cost_le, turn_off}

-- what is said of t holds of a table with the same values and weights
pub midway_over : (f : Formula) (t u : Table) (x j : ℕ) → ((y : ℕ) → value_at u y ≡ value_at t y) → ((k : ℕ) → weight_at u k ≡ weight_at t k) → sum_to (clause_count f) (weight_at t) < 2 ^ 40 → u.total ≡ sum_to (clause_count f) (weight_at t) → ((k : ℕ) → k < clause_count f → count_at u k ≡ cond (ltb k j) (count (flip_at x (value_at t)) (entries_of f k)) (count (value_at t) (entries_of f k))) → ((y : ℕ) → y < f.variables → (y ≡ x → ⊥) → score_at u y ≡ score_between (rules_of f t) j (value_at t) (flip_at x (value_at t)) y) → u.cost ≡ cost_between (rules_of f t) j (value_at t) (flip_at x (value_at t)) → Midway f u x j
midway_over f t u x j values weights light totals counts scores costs =
    let ev : value_at t ≡ value_at u = fun_ext (λ y. sym (values y)) in
    let ew : weight_at t ≡ weight_at u = fun_ext (λ y. sym (weights y)) in
    let R : (ℕ → ℕ) → Rules = λ w. rules_with f w in
    record {
      light = subst (λ w. sum_to (clause_count f) w < 2 ^ 40) ew light;
      counts = λ k l. counts k l ∙ ap (λ a. cond (ltb k j) (count (flip_at x a) (entries_of f k)) (count a (entries_of f k))) ev;
      scores = λ y l ne. scores y l ne ∙ ap₂ (λ w a. score_between (R w) j a (flip_at x a) y) ew ev;
      costs = costs ∙ ap₂ (λ w a. cost_between (R w) j a (flip_at x a)) ew ev;
      totals = totals ∙ ap (sum_to (clause_count f)) ew;
    }

and_true : (b : Bool) → (b && true) ≡ b
and_true true = refl
and_true false = refl

later : (i k : ℕ) → (k ≡ i → ⊥) → ltb k i ≡ ltb k (i + 1)
later i k ne = grind (arith, nat_tests)

module _ (f : Formula) (t : Table) (x i : ℕ) (l : i < clause_count f) (mid : Midway f t x i) where
  pub count_now : count_at t i ≡ count (value_at t) (entries_of f i)
  count_now = mid.counts i l ∙ cond-false _ _ _ (le-ltb i i (omega arith))

  pub short : length (entries_of f i) ≤ 4096
  short = simp length-take (omega (arith, f.made.inside i l, f.made.few_entries))

  pub between_within : (j y : ℕ) → Within (score_between (rules_of f t) j (value_at t) (flip_at x (value_at t)) y)
  between_within j y =
      let p = cost_le (rules_of f t) j (value_at t) (flip_at x (value_at t)) in
      let q = cost_le (rules_of f t) j (flip_at y (value_at t)) (flip_at y (flip_at x (value_at t))) in
      let k = mid.light in
      omega (arith, ints)

  next-score : (y : ℕ) → y < f.variables → (y ≡ x → ⊥) → score_at t y +ℤ turn (weight_at t i) (weight_at t i) (value_at t) (flip_at x (value_at t)) (entries_of f i) y ≡ score_between (rules_of f t) (i + 1) (value_at t) (flip_at x (value_at t)) y
  next-score y s ne =
      ap (λ z. z +ℤ turn (weight_at t i) (weight_at t i) (value_at t) (flip_at x (value_at t)) (entries_of f i) y) (mid.scores y s ne)
      ∙ sym (score_more (rules_of f t) (value_at t) (flip_at x (value_at t)) i l (entries_of f i) refl y)

  pub next-within : (y : ℕ) → (y ≡ x → ⊥) → named_in (entries_of f i) y ≡ true → Within (score_at t y +ℤ turn (weight_at t i) (weight_at t i) (value_at t) (flip_at x (value_at t)) (entries_of f i) y)
  next-within y ne h = subst Within (sym (next-score y (named_small f.variables (entries_of f i) y (f.made.signed i l) h) ne)) (between_within (i + 1) y)

  pub cost_small : t.cost < 2 ^ 40
  cost_small = omega (arith, cost_le (rules_of f t) i (value_at t) (flip_at x (value_at t)), mid.light, mid.costs)

  pub total_room : weight_at t i ≤ t.total
  total_room = omega (arith, mid.totals, sum_to_term (clause_count f) (weight_at t) i l)

  pub total_small : t.total < 2 ^ 40
  total_small = omega (arith, mid.totals, mid.light)

  pub cost_room : count_at t i ≡ 0 → weight_at t i ≤ t.cost
  cost_room z =
      let e : cond (ltb i i) (loss (rules_of f t) (flip_at x (value_at t)) i) (loss (rules_of f t) (value_at t) i) ≡ loss_at (weight_at t i) (value_at t) (entries_of f i) = cond-false _ _ _ (le-ltb i i (omega arith)) in
      let o : loss_at (weight_at t i) (value_at t) (entries_of f i) ≡ weight_at t i = cond-true _ _ _ (eq-eqb _ 0 (sym count_now ∙ z)) in
      let m = sum_to_term (clause_count f) (λ k. cond (ltb k i) (loss (rules_of f t) (flip_at x (value_at t)) k) (loss (rules_of f t) (value_at t) k)) i l in
      omega (arith, mid.costs)

  -- the clause does not name x
  pub step_off : named_in (entries_of f i) x ≡ false → Midway f t x (i + 1)
  step_off h =
      let c = count_absent (value_at t) x (entries_of f i) h in
      midway_over f t t x (i + 1) (λ y. refl) (λ k. refl) mid.light mid.totals
      (at_all (λ k. k < clause_count f → count_at t k ≡ cond (ltb k (i + 1)) (count (flip_at x (value_at t)) (entries_of f k)) (count (value_at t) (entries_of f k))) i
      (λ _. count_now ∙ (sym c ∙ sym (cond-true _ _ _ (lt-ltb i (i + 1) (omega arith)))))
      (λ k ne m. mid.counts k m ∙ ap (λ b. cond b (count (flip_at x (value_at t)) (entries_of f k)) (count (value_at t) (entries_of f k))) (later i k ne)))
      (λ y s ne. let z = turn_off (weight_at t i) (value_at t) x (entries_of f i) y h in let k = next-score y s ne in omega (arith, ints))
      (let e : loss_at (weight_at t i) (flip_at x (value_at t)) (entries_of f i) ≡ loss_at (weight_at t i) (value_at t) (entries_of f i) = ap (λ n. cond (eqb n 0) (weight_at t i) 0) c in
      omega (arith, mid.costs, cost_more (rules_of f t) (value_at t) (flip_at x (value_at t)) i l (entries_of f i) refl))

  pub revised_off : named_in (entries_of f i) x ≡ false → Revised (entries_of f i) x t t
  revised_off h =
      record {
        values = λ y. refl;
        stamps = λ y. refl;
        weights = λ k. refl;
        ticks = refl;
        own = refl;
        marks = λ y. sym (ap (λ b. changed_at t y || (not (eqb y x) && (b && named_in (entries_of f i) y))) h ∙ nothing (changed_at t y) (not (eqb y x)));
        kept = λ y _. refl;
      }
    where
      nothing : (p q : Bool) → (p || (q && false)) ≡ p
      nothing true true = refl
      nothing true false = refl
      nothing false true = refl
      nothing false false = refl

  -- the clause names x: u is the table after its entries
  module _ (u : Table) (m : ℕ) (is : m ≡ count (flip_at x (value_at t)) (entries_of f i)) (h : Turned (entries_of f i) (weight_at t i) (weight_at t i) x true t u) (u' : Table) (z : Settled i (record { weight = weight_at t i; count = m }) u u') where
    abbrev new : ClauseRow
    new = record { weight = weight_at t i; count = m }

    len : i < length u.clauses
    len = omega (arith, u.clause_size, f.made.few_clauses)

    row' : get_or u'.clauses i clause0 ≡ new
    row' = ap (λ cs. get_or cs i clause0) z.clauses ∙ get_or-set_same u.clauses i new clause0 len

    other : (k : ℕ) → (k ≡ i → ⊥) → get_or u'.clauses k clause0 ≡ get_or t.clauses k clause0
    other k ne = ap (λ cs. get_or cs k clause0) z.clauses ∙ (get_or-set_other u.clauses i k new clause0 ne ∙ ap (λ cs. get_or cs k clause0) h.same_clauses)

    row : (y : ℕ) → row_at u' y ≡ row_at u y
    row y = ap (λ rs. get_or rs y row0) z.rows

    weights' : (k : ℕ) → weight_at u' k ≡ weight_at t k
    weights' = at_all (λ k. weight_at u' k ≡ weight_at t k) i
        (ap (λ (z : ClauseRow). z.weight) row')
        (λ k ne. ap (λ (z : ClauseRow). z.weight) (other k ne))

    counts' : (k : ℕ) → k < clause_count f → count_at u' k ≡ cond (ltb k (i + 1)) (count (flip_at x (value_at t)) (entries_of f k)) (count (value_at t) (entries_of f k))
    counts' = at_all (λ k. k < clause_count f → count_at u' k ≡ cond (ltb k (i + 1)) (count (flip_at x (value_at t)) (entries_of f k)) (count (value_at t) (entries_of f k))) i
        (λ _. ap (λ (z : ClauseRow). z.count) row' ∙ (is ∙ sym (cond-true _ _ _ (lt-ltb i (i + 1) (omega arith)))))
        (λ k ne s. ap (λ (z : ClauseRow). z.count) (other k ne) ∙ (mid.counts k s ∙ ap (λ b. cond b (count (flip_at x (value_at t)) (entries_of f k)) (count (value_at t) (entries_of f k))) (later i k ne)))

    costs' : u'.cost ≡ cost_between (rules_of f t) (i + 1) (value_at t) (flip_at x (value_at t))
    costs' =
        let p = cost_more (rules_of f t) (value_at t) (flip_at x (value_at t)) i l (entries_of f i) refl in
        let a : loss_at (weight_at t i) (value_at t) (entries_of f i) ≡ cond (eqb (count_at t i) 0) (weight_at t i) 0 = ap (λ n. cond (eqb n 0) (weight_at t i) 0) (sym count_now) in
        let b : loss_at (weight_at t i) (flip_at x (value_at t)) (entries_of f i) ≡ cond (eqb m 0) (weight_at t i) 0 = ap (λ n. cond (eqb n 0) (weight_at t i) 0) (sym is) in
        let room : cond (eqb (count_at t i) 0) (weight_at t i) 0 ≤ t.cost = cond_both (eqb (count_at t i) 0) (weight_at t i) 0 (λ z. z ≤ t.cost) (λ e. cost_room (eqb-true _ _ e)) (λ e. omega arith) in
        let o : owed (get_or u.clauses i clause0) ≡ cond (eqb (count_at t i) 0) (weight_at t i) 0 = ap (λ cs. owed (get_or cs i clause0)) h.same_clauses in
        omega (arith, mid.costs, h.same_cost, z.cost)

    totals' : u'.total ≡ sum_to (clause_count f) (weight_at t)
    totals' =
        let e : weight_at u i ≡ weight_at t i = ap (λ cs. (get_or cs i clause0).weight) h.same_clauses in
        omega (arith, mid.totals, h.same_total, z.total, sum_to_term (clause_count f) (weight_at t) i l)

    pub step_on : Midway f u' x (i + 1)
    step_on =
        midway_over f t u' x (i + 1)
        (λ y. ap (λ (r : Row). r.value) (row y) ∙ h.values y)
        weights' mid.light totals' counts'
        (λ y s ne. ap (λ (r : Row). r.score) (row y) ∙ (h.scores y ne ∙ next-score y s ne))
        costs'

    pub revised_on : named_in (entries_of f i) x ≡ true → Revised (entries_of f i) x t u'
    revised_on k =
        record {
          values = λ y. ap (λ (r : Row). r.value) (row y) ∙ h.values y;
          stamps = λ y. ap (λ (r : Row). r.stamp) (row y) ∙ h.stamps y;
          weights = weights';
          ticks = z.tick ∙ h.same_tick;
          own = ap (λ (r : Row). r.score) (row x) ∙ h.own;
          marks = λ y. ap (λ (r : Row). r.changed) (row y) ∙ h.marks y ∙ ap (λ b. changed_at t y || b) (and_true (not (eqb y x) && named_in (entries_of f i) y)) ∙ ap (λ b. changed_at t y || (not (eqb y x) && (b && named_in (entries_of f i) y))) (sym k);
          kept = λ y e. row y ∙ h.kept y (ap (λ b. not (eqb y x) && (b && named_in (entries_of f i) y)) (sym k) ∙ e);
        }
