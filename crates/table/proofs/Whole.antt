-- The whole flip.
use Rattle.std.proofs.Common.{◌≡◌, ℕ, ◌+◌, ◌^◌, ◌<◌, ◌≤◌, Bool, true, false, cond, not, ◌&&◌, ◌||◌, eqb, ltb, get_or, pos, ◌-ℤ◌, neg_ℤ, sym, refl, ap, ◌∙◌, subst, ap₂, add-one, arith}
use mathlib.Core.Path.{fun_ext}
use Rattle.std.proofs.lemmas.Int.{ints}
use Rattle.std.proofs.lemmas.Bool.{eq-eqb, ne_eqb, or_parts, or_from, and_right, and_from, and_parts, cond-true, cond-false, lt-ltb, le-ltb}
use Rattle.std.proofs.lemmas.List.{get_or-set_same, get_or-set_other}
use Rattle.std.proofs.lemmas.Bool.Decides.{nat_tests}
use Rattle.formula.specs.declared.formula.Formula.{Formula}
use Rattle.formula.specs.Clauses.{sum_to, any_to, flip_at}
use Rattle.formula.specs.Entries.{count, named_in}
use Rattle.formula.specs.Formulas.{clause_count, entries_of}
use Rattle.formula.proofs.Sums.{at_all, or_assoc, any_to_same, any_to_none, any_to_gain}
use Rattle.formula.proofs.Counts.{flipped_same, flipped_other}
use Rattle.table.specs.declared.table.Row.{Row}
use Rattle.table.specs.declared.table.Table.{Table}
use Rattle.table.specs.Rows.{Rules, loss, cost_in, score_in, near_in, changed_in, Within, row0, clause0, row_at, value_at, score_at, stamp_at, changed_at, weight_at, count_at, rules_of, rules_with, TurnedRow}
use Rattle.table.specs.Sound.{Sound, cost_between, score_between, Midway, Revised, Since, Flipped}
use Rattle.table.proofs.Shares.{partly_none, partly_all, cost_le}

pub flipped_twice : (x : ℕ) (a : ℕ → Bool) → flip_at x (flip_at x a) ≡ a
flipped_twice x a = fun_ext (λ v. go (eqb v x) (a v))
  where
    go : (p u : Bool) → cond p (not (cond p (not u) u)) (cond p (not u) u) ≡ u
    go true true = refl
    go true false = refl
    go false u = refl

-- the flip back: the score turns round
pub score_back : (r : Rules) (a : ℕ → Bool) (x : ℕ) → score_in r (flip_at x a) x ≡ neg_ℤ (score_in r a x)
score_back r a x =
    let e : cost_in r (flip_at x (flip_at x a)) ≡ cost_in r a = ap (cost_in r) (flipped_twice x a) in
    omega (arith, ints)

pub midway_start : (f : Formula) (t : Table) (x : ℕ) → Sound f t → Midway f t x 0
midway_start f t x s =
    let r = rules_of f t in
    record {
      light = s.light;
      counts = λ k l. s.counts k l ∙ sym (cond-false _ _ _ (le-ltb k 0 (omega arith)));
      scores = λ y l ne. s.scores y l ∙ sym (ap₂ (λ m n. pos m -ℤ pos n) (partly_none r.number (loss r (value_at t)) (loss r (flip_at x (value_at t)))) (partly_none r.number (loss r (flip_at y (value_at t))) (loss r (flip_at y (flip_at x (value_at t))))));
      costs = s.costs ∙ sym (partly_none r.number (loss r (value_at t)) (loss r (flip_at x (value_at t))));
      totals = s.totals;
    }

pub since_start : (f : Formula) (t : Table) (x : ℕ) → Since f x 0 t t
since_start f t x =
    record {
      values = λ y. refl;
      stamps = λ y. refl;
      weights = λ k. refl;
      ticks = refl;
      own = refl;
      marks = λ y. sym (nothing (changed_at t y) (not (eqb y x)));
      kept = λ y _. refl;
    }
  where
    nothing : (p q : Bool) → (p || (q && false)) ≡ p
    nothing true true = refl
    nothing true false = refl
    nothing false true = refl
    nothing false false = refl

pub score-within : (f : Formula) (t : Table) (x : ℕ) → x < f.variables → Sound f t → Within (score_at t x)
score-within f t x l s =
    let e = s.scores x l in
    let r = rules_of f t in
    let p : cost_in r (value_at t) ≤ sum_to (clause_count f) (weight_at t) = omega (arith, cost_le r 0 (value_at t) (value_at t), partly_none r.number (loss r (value_at t)) (loss r (value_at t))) in
    let q : cost_in r (flip_at x (value_at t)) ≤ sum_to (clause_count f) (weight_at t) = omega (arith, cost_le r 0 (flip_at x (value_at t)) (value_at t), partly_none r.number (loss r (flip_at x (value_at t))) (loss r (value_at t))) in
    let k = s.light in
    omega (arith, ints)

-- what is said of other values and weights holds of a table that has them
pub sound_over : (f : Formula) (W : ℕ → ℕ) (u : Table) (b : ℕ → Bool) → ((y : ℕ) → value_at u y ≡ b y) → ((k : ℕ) → weight_at u k ≡ W k) → sum_to (clause_count f) W < 2 ^ 40 → u.total ≡ sum_to (clause_count f) W → ((k : ℕ) → k < clause_count f → count_at u k ≡ count b (entries_of f k)) → ((y : ℕ) → y < f.variables → score_at u y ≡ score_in (rules_with f W) b y) → u.cost ≡ cost_in (rules_with f W) b → ((y : ℕ) → y < f.variables → changed_at u y ≡ changed_in (rules_with f W) f.variables (stamp_at u) y) → ((y : ℕ) → y < f.variables → stamp_at u y ≤ u.tick) → Sound f u
sound_over f W u b values weights light totals counts scores costs marks stamps =
    let ev : b ≡ value_at u = fun_ext (λ y. sym (values y)) in
    let ew : W ≡ weight_at u = fun_ext (λ y. sym (weights y)) in
    record {
      light = subst (λ w. sum_to (clause_count f) w < 2 ^ 40) ew light;
      counts = λ k l. counts k l ∙ ap (λ a. count a (entries_of f k)) ev;
      scores = λ y l. scores y l ∙ ap₂ (λ w a. score_in (rules_with f w) a y) ew ev;
      costs = costs ∙ ap₂ (λ w a. cost_in (rules_with f w) a) ew ev;
      totals = totals ∙ ap (sum_to (clause_count f)) ew;
      marks = marks;
      stamps = stamps;
    }

eqb_comm : (x y : ℕ) → eqb x y ≡ eqb y x
eqb_comm x y = grind (arith, nat_tests)

and_comm : (p q : Bool) → (p && q) ≡ (q && p)
and_comm true true = refl
and_comm true false = refl
and_comm false true = refl
and_comm false false = refl

module _ (f : Formula) (t u v : Table) (x : ℕ) (l : x < f.variables) (s : Sound f t) (mid : Midway f u x (clause_count f)) (h : Since f x (clause_count f) t u) (z : TurnedRow x u v) where
  abbrev b : ℕ → Bool
  b = flip_at x (value_at t)

  abbrev r : Row
  r = record { value = not (row_at u x).value; score = neg_ℤ (row_at u x).score; stamp = u.tick + 1; changed = false }

  same : row_at v x ≡ r
  same = ap (λ rs. get_or rs x row0) z.rows ∙ get_or-set_same u.rows x r row0 (omega (arith, u.size, f.made.few_variables))

  other : (y : ℕ) → (y ≡ x → ⊥) → row_at v y ≡ row_at u y
  other y ne = ap (λ rs. get_or rs y row0) z.rows ∙ get_or-set_other u.rows x y r row0 ne

  eu : value_at u ≡ value_at t
  eu = fun_ext h.values

  ew : weight_at u ≡ weight_at t
  ew = fun_ext h.weights

  values' : (y : ℕ) → value_at v y ≡ b y
  values' = at_all (λ y. value_at v y ≡ b y) x
      (ap (λ (z : Row). z.value) same ∙ (ap not (h.values x) ∙ sym (flipped_same x (value_at t))))
      (λ y ne. ap (λ (z : Row). z.value) (other y ne) ∙ (h.values y ∙ sym (flipped_other x (value_at t) y ne)))

  stamps' : (y : ℕ) → stamp_at v y ≡ cond (eqb y x) (t.tick + 1) (stamp_at t y)
  stamps' = at_all (λ y. stamp_at v y ≡ cond (eqb y x) (t.tick + 1) (stamp_at t y)) x
      (ap (λ (z : Row). z.stamp) same ∙ (ap (λ n. n + 1) h.ticks ∙ sym (cond-true _ _ _ (eq-eqb x x refl))))
      (λ y ne. ap (λ (z : Row). z.stamp) (other y ne) ∙ (h.stamps y ∙ sym (cond-false _ _ _ (ne_eqb y x ne))))

  stamp_x : stamp_at v x ≡ t.tick + 1
  stamp_x = stamps' x ∙ cond-true _ _ _ (eq-eqb x x refl)

  stamp_other : (y : ℕ) → (y ≡ x → ⊥) → stamp_at v y ≡ stamp_at t y
  stamp_other y ne = stamps' y ∙ cond-false _ _ _ (ne_eqb y x ne)

  abbrev R : Rules
  R = rules_of f t

  abbrev Rw : (ℕ → ℕ) → Rules
  Rw w = rules_with f w

  counts' : (k : ℕ) → k < clause_count f → count_at v k ≡ count b (entries_of f k)
  counts' k m = ap (λ cs. (get_or cs k clause0).count) z.clauses ∙ mid.counts k m ∙ (cond-true _ _ _ (lt-ltb k (clause_count f) m) ∙ ap (λ a. count (flip_at x a) (entries_of f k)) eu)

  costs' : v.cost ≡ cost_in R b
  costs' = z.cost ∙ mid.costs ∙ (ap₂ (λ w a. cost_between (Rw w) (clause_count f) a (flip_at x a)) ew eu ∙ partly_all (clause_count f) (loss R (value_at t)) (loss R b))

  scores' : (y : ℕ) → y < f.variables → score_at v y ≡ score_in R b y
  scores' = at_all (λ y. y < f.variables → score_at v y ≡ score_in R b y) x
      (λ _. ap (λ (z : Row). z.score) same ∙ (ap neg_ℤ (h.own ∙ s.scores x l) ∙ sym (score_back R (value_at t) x)))
      (λ y ne m.
      ap (λ (z : Row). z.score) (other y ne)
      ∙ (mid.scores y m ne
      ∙ (ap₂ (λ w a. score_between (Rw w) (clause_count f) a (flip_at x a) y) ew eu
      ∙ ap₂ (λ m n. pos m -ℤ pos n) (partly_all (clause_count f) (loss R (value_at t)) (loss R b)) (partly_all (clause_count f) (loss R (flip_at y (value_at t))) (loss R (flip_at y b))))))

  -- the neighbours of x, by the entries
  near : (y : ℕ) → near_in R y x ≡ (not (eqb y x) && any_to (clause_count f) (λ k. named_in (entries_of f k) x && named_in (entries_of f k) y))
  near y =
      ap (λ q. not (eqb y x) && q)
      (any_to_same (clause_count f) _ _ (λ k m. and_comm (named_in (entries_of f k) y) (named_in (entries_of f k) x)))

  mark_x : changed_in R f.variables (stamp_at v) x ≡ false
  mark_x =
      or_from _ _ (ne_eqb (stamp_at v x) 0 (λ e. omega (arith, stamp_x)))
      (any_to_none f.variables _ (at_all (λ k. k < f.variables → (near_in R x k && ltb (stamp_at v x) (stamp_at v k)) ≡ false) x
      (λ _. and_right _ _ (le-ltb (stamp_at v x) (stamp_at v x) (omega arith)))
      (λ k ne m. and_right _ _ (le-ltb (stamp_at v x) (stamp_at v k) (omega (arith, stamp_x, stamp_other k ne, s.stamps k m))))))

  mark_other : (y : ℕ) → (y ≡ x → ⊥) → y < f.variables → changed_at v y ≡ changed_in R f.variables (stamp_at v) y
  mark_other y ne m =
      let sy = stamp_other y ne in
      let top : ltb (stamp_at v y) (stamp_at v x) ≡ true = lt-ltb (stamp_at v y) (stamp_at v x) (omega (arith, stamp_x, s.stamps y m)) in
      let qx : (near_in R y x && ltb (stamp_at v y) (stamp_at v x)) ≡ near_in R y x = ap (λ c. near_in R y x && c) top ∙ and_comm (near_in R y x) true in
      let g : any_to f.variables (λ z. near_in R y z && ltb (stamp_at v y) (stamp_at v z)) ≡ (any_to f.variables (λ z. near_in R y z && ltb (stamp_at t y) (stamp_at t z)) || (near_in R y x && ltb (stamp_at v y) (stamp_at v x))) =
      any_to_gain f.variables (λ z. near_in R y z && ltb (stamp_at t y) (stamp_at t z)) (λ z. near_in R y z && ltb (stamp_at v y) (stamp_at v z)) x l
      (λ k _ n. ap₂ (λ c d. near_in R y k && ltb c d) sy (stamp_other k n))
      (λ e. and_from _ _ (and_parts _ _ e).0 top) in
      ap (λ (z : Row). z.changed) (other y ne)
      ∙ (h.marks y
      ∙ (ap₂ ◌||◌ (s.marks y m) (sym (near y))
      ∙ (or_assoc (eqb (stamp_at t y) 0) (any_to f.variables (λ z. near_in R y z && ltb (stamp_at t y) (stamp_at t z))) (near_in R y x)
      ∙ ap₂ (λ c d. eqb c 0 || d) (sym sy) (ap (λ c. any_to f.variables (λ z. near_in R y z && ltb (stamp_at t y) (stamp_at t z)) || c) (sym qx) ∙ sym g))))

  weights' : (k : ℕ) → weight_at v k ≡ weight_at t k
  weights' k = ap (λ cs. (get_or cs k clause0).weight) z.clauses ∙ h.weights k

  sound_end : Sound f v
  sound_end =
      sound_over f (weight_at t) v b
      values' weights' s.light (z.total ∙ mid.totals ∙ ap (sum_to (clause_count f)) ew) counts' scores' costs'
      (at_all (λ y. y < f.variables → changed_at v y ≡ changed_in R f.variables (stamp_at v) y) x
      (λ _. ap (λ (z : Row). z.changed) same ∙ sym mark_x)
      mark_other)
      (at_all (λ y. y < f.variables → stamp_at v y ≤ v.tick) x
      (λ _. omega (arith, stamp_x, h.ticks, z.tick))
      (λ y ne m. omega (arith, stamp_other y ne, s.stamps y m, h.ticks, z.tick)))

  pub flipped_end : Flipped f x t v
  flipped_end = record { sound = sound_end; values = values'; stamps = stamps'; weights = weights'; ticks = z.tick ∙ ap (λ n. n + 1) h.ticks; others = λ y ne k. other y ne ∙ h.kept y (sym (near y) ∙ k) }

-- one clause more
pub since_more : (f : Formula) (x i : ℕ) (t u v : Table) → Since f x i t u → Revised (entries_of f i) x u v → Since f x (i + 1) t v
since_more f x i t u v s r = subst (λ n. Since f x n t v) (sym (add-one i))
    (record {
      values = λ y. r.values y ∙ s.values y;
      stamps = λ y. r.stamps y ∙ s.stamps y;
      weights = λ k. r.weights k ∙ s.weights k;
      ticks = r.ticks ∙ s.ticks;
      own = r.own ∙ s.own;
      marks = λ y. r.marks y ∙ (ap (λ b. b || (not (eqb y x) && (named_in (entries_of f i) x && named_in (entries_of f i) y))) (s.marks y) ∙ join (changed_at t y) (not (eqb y x)) _ _);
      kept = λ y e. let ps = apart (not (eqb y x)) _ _ e in r.kept y ps.1 ∙ s.kept y ps.0;
    })
  where
    join : (a n p q : Bool) → ((a || (n && p)) || (n && q)) ≡ (a || (n && (p || q)))
    join true n p q = refl
    join false true p q = refl
    join false false p q = refl

    apart : (n p q : Bool) → (n && (p || q)) ≡ false → ((n && p) ≡ false) × ((n && q) ≡ false)
    apart true p q e = or_parts p q e
    apart false p q e = (refl, refl)
