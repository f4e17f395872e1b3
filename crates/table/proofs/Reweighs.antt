-- Another weight for one clause.
use Rattle.std.proofs.Common.{◌≡◌, ℕ, ◌^◌, ◌<◌, ◌≤◌, Bool, true, false, cond, ◌||◌, eqb, List, length, get_or, ◌+ℤ◌, sym, refl, ap, ◌∙◌, subst, ap₂, ⊎_elim, arith}
use mathlib.Core.Path.{fun_ext}
use Rattle.std.proofs.lemmas.Int.{ints}
use Rattle.std.proofs.lemmas.Bool.{eq-eqb, ne_eqb, eqb-true, cases_Bool, and_right, cond-true, cond-false, cond_both}
use Rattle.std.proofs.lemmas.List.{get_or-set_same, get_or-set_other, length-take}
use Rattle.formula.specs.declared.entry.Entry.{Entry}
use Rattle.formula.specs.declared.formula.Formula.{Formula}
use Rattle.formula.specs.Clauses.{sum_to, flip_at}
use Rattle.formula.specs.Entries.{count, named_in}
use Rattle.formula.specs.Formulas.{clause_count, entries_of}
use Rattle.formula.proofs.Sums.{at_all, or_none, sum_to_change, sum_to_term}
use Rattle.formula.proofs.Counts.{count_absent, named_small}
use Rattle.table.specs.declared.table.Row.{Row}
use Rattle.table.specs.declared.table.ClauseRow.{ClauseRow}
use Rattle.table.specs.declared.table.Table.{Table}
use Rattle.table.specs.Rows.{Rules, loss, cost_in, score_in, changed_in, loss_at, turn, Within, row0, clause0, row_at, value_at, score_at, stamp_at, changed_at, weight_at, count_at, rules_of, rules_with, owed, Settled, reweighted}
use Rattle.table.specs.Sound.{Sound, Turned, Reweighed}
use Rattle.table.proofs.Shares.{partly_none, cost_le, turn_still, cost_reweighed, score_reweighed}
use Rattle.table.proofs.Whole.{sound_over}

pub cost_le_sum : (r : Rules) (a : ℕ → Bool) → cost_in r a ≤ sum_to r.number r.weight
cost_le_sum r a = omega (arith, cost_le r 0 a a, partly_none r.number (loss r a) (loss r a))

pub score_of_light : (r : Rules) (a : ℕ → Bool) (y : ℕ) → sum_to r.number r.weight < 2 ^ 40 → Within (score_in r a y)
score_of_light r a y k = let p = cost_le_sum r a in let q = cost_le_sum r (flip_at y a) in omega (arith, ints)

module _ (f : Formula) (t : Table) (i w : ℕ) (l : i < clause_count f) (s : Sound f t) (light : sum_to (clause_count f) (reweighted (weight_at t) i w) < 2 ^ 40) where
  abbrev es : List Entry
  es = entries_of f i

  abbrev a : ℕ → Bool
  a = value_at t

  abbrev V : ℕ → ℕ
  V = reweighted (weight_at t) i w

  V_at : V i ≡ w
  V_at = cond-true _ _ _ (eq-eqb i i refl)

  V_other : (k : ℕ) → (k ≡ i → ⊥) → V k ≡ weight_at t k
  V_other k ne = cond-false _ _ _ (ne_eqb k i ne)

  -- no clause names variable 256
  pub nobody : named_in es 256 ≡ false
  nobody = ⊎_elim (λ (q : named_in es 256 ≡ true). absurd (omega (arith, named_small f.variables es 256 (f.made.signed i l) q, f.made.few_variables))) (λ q. q) (cases_Bool (named_in es 256))

  pub count_still : count_at t i ≡ count (flip_at 256 a) es
  count_still = s.counts i l ∙ sym (count_absent a 256 es nobody)

  pub short : length es ≤ 4096
  short = simp length-take (omega (arith, f.made.inside i l, f.made.few_entries))

  next-score : (y : ℕ) → y < f.variables → score_at t y +ℤ turn (weight_at t i) w a (flip_at 256 a) es y ≡ score_in (rules_with f V) a y
  next-score y m =
      ap₂ ◌+ℤ◌ (s.scores y m) (turn_still (weight_at t i) w a 256 es y nobody ∙ ap (λ v. turn (weight_at t i) v a a es y) (sym V_at))
      ∙ sym (score_reweighed (clause_count f) (entries_of f) (weight_at t) V i l V_other es refl a y)

  pub next-within : (y : ℕ) → (y ≡ 256 → ⊥) → named_in es y ≡ true → Within (score_at t y +ℤ turn (weight_at t i) w a (flip_at 256 a) es y)
  next-within y ne h = subst Within (sym (next-score y (named_small f.variables es y (f.made.signed i l) h))) (score_of_light (rules_with f V) a y light)

  pub cost_small : t.cost < 2 ^ 40
  cost_small = omega (arith, s.costs, cost_le_sum (rules_of f t) a, s.light)

  pub total_room : weight_at t i ≤ t.total
  total_room = omega (arith, s.totals, sum_to_term (clause_count f) (weight_at t) i l)

  pub total_small : t.total < 2 ^ 40
  total_small = omega (arith, s.totals, s.light)

  pub cost_room : count_at t i ≡ 0 → weight_at t i ≤ t.cost
  cost_room z =
      let o : loss_at (weight_at t i) a es ≡ weight_at t i = cond-true _ _ _ (eq-eqb _ 0 (sym (s.counts i l) ∙ z)) in
      let m = sum_to_term (clause_count f) (loss (rules_of f t) a) i l in
      omega (arith, s.costs)

  module _ (u : Table) (h : Turned es (weight_at t i) w 256 false t u) (u' : Table) (z : Settled i (record { weight = w; count = count_at t i }) u u') where
    abbrev new : ClauseRow
    new = record { weight = w; count = count_at t i }

    row' : get_or u'.clauses i clause0 ≡ new
    row' = ap (λ cs. get_or cs i clause0) z.clauses ∙ get_or-set_same u.clauses i new clause0 (omega (arith, u.clause_size, f.made.few_clauses))

    other : (k : ℕ) → (k ≡ i → ⊥) → get_or u'.clauses k clause0 ≡ get_or t.clauses k clause0
    other k ne = ap (λ cs. get_or cs k clause0) z.clauses ∙ (get_or-set_other u.clauses i k new clause0 ne ∙ ap (λ cs. get_or cs k clause0) h.same_clauses)

    row : (y : ℕ) → row_at u' y ≡ row_at u y
    row y = ap (λ rs. get_or rs y row0) z.rows

    weights' : (k : ℕ) → weight_at u' k ≡ V k
    weights' = at_all (λ k. weight_at u' k ≡ V k) i (ap (λ (z : ClauseRow). z.weight) row' ∙ sym V_at) (λ k ne. ap (λ (z : ClauseRow). z.weight) (other k ne) ∙ sym (V_other k ne))

    counts' : (k : ℕ) → count_at u' k ≡ count_at t k
    counts' = at_all (λ k. count_at u' k ≡ count_at t k) i (ap (λ (z : ClauseRow). z.count) row') (λ k ne. ap (λ (z : ClauseRow). z.count) (other k ne))

    marks' : (y : ℕ) → changed_at u' y ≡ changed_at t y
    marks' y = ap (λ (r : Row). r.changed) (row y) ∙ (h.marks y ∙ (ap (λ b. changed_at t y || b) (and_right _ _ refl) ∙ or_none (changed_at t y)))

    costs' : u'.cost ≡ cost_in (rules_with f V) a
    costs' =
        let p = cost_reweighed (clause_count f) (entries_of f) (weight_at t) V i l V_other es refl a in
        let b : loss_at (V i) a es ≡ cond (eqb (count_at t i) 0) w 0 = ap₂ (λ n v. cond (eqb n 0) v 0) (sym (s.counts i l)) V_at in
        let c : loss_at (weight_at t i) a es ≡ cond (eqb (count_at t i) 0) (weight_at t i) 0 = ap (λ n. cond (eqb n 0) (weight_at t i) 0) (sym (s.counts i l)) in
        let room : cond (eqb (count_at t i) 0) (weight_at t i) 0 ≤ t.cost = cond_both (eqb (count_at t i) 0) (weight_at t i) 0 (λ z. z ≤ t.cost) (λ e. cost_room (eqb-true _ _ e)) (λ e. omega arith) in
        let o : owed (get_or u.clauses i clause0) ≡ cond (eqb (count_at t i) 0) (weight_at t i) 0 = ap (λ cs. owed (get_or cs i clause0)) h.same_clauses in
        omega (arith, s.costs, h.same_cost, z.cost)

    totals' : u'.total ≡ sum_to (clause_count f) V
    totals' =
        let e : weight_at u i ≡ weight_at t i = ap (λ cs. (get_or cs i clause0).weight) h.same_clauses in
        omega (arith, s.totals, h.same_total, z.total, sum_to_term (clause_count f) (weight_at t) i l, V_at, sum_to_change (clause_count f) (weight_at t) V i l (λ k _ ne. V_other k ne))

    values' : (y : ℕ) → value_at u' y ≡ value_at t y
    values' y = ap (λ (r : Row). r.value) (row y) ∙ h.values y

    stamps' : (y : ℕ) → stamp_at u' y ≡ stamp_at t y
    stamps' y = ap (λ (r : Row). r.stamp) (row y) ∙ h.stamps y

    reweighed_sound : Sound f u'
    reweighed_sound =
        sound_over f V u' a
        values' weights' light totals'
        (λ k m. counts' k ∙ s.counts k m)
        (λ y m. ap (λ (r : Row). r.score) (row y) ∙ (h.scores y (λ e. omega (arith, f.made.few_variables)) ∙ next-score y m))
        costs'
        (λ y m. marks' y ∙ (s.marks y m ∙ ap (λ st. changed_in (rules_with f V) f.variables st y) (fun_ext (λ x. sym (stamps' x)))))
        (λ y m. omega (arith, stamps' y, s.stamps y m, h.same_tick, z.tick))

    pub reweighed : Reweighed f i w t u'
    reweighed = record { sound = reweighed_sound; values = values'; stamps = stamps'; weights = weights'; counts = counts'; ticks = z.tick ∙ h.same_tick }
