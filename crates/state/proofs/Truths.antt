-- What holds of every model.
use Rattle.std.proofs.Common.{◌≡◌, ℕ, zero, suc, ◌+◌, ◌*◌, ◌/◌, ◌<◌, ◌≤◌, Bool, true, false, cond, not, ◌&&◌, ◌||◌, eqb, ltb, List, [], ◌∷◌, length, get_or, replicate, ℤ, pos, negsuc, ◌+ℤ◌, ◌-ℤ◌, ◌*ℤ◌, sum, sym, refl, ap, ◌∙◌, ap₂, ⊎_elim, mul-one, mul-add, arith}
use mathlib.Core.Path.{fun_ext}
use Rattle.std.proofs.lemmas.Int.{ints}
use Rattle.std.proofs.lemmas.Bool.{cases_eq, ne_eqb, or_parts, and_cases, and_left, and_right, false≢true, not_from_false}
use Rattle.std.proofs.lemmas.List.{get_or-set_same, get_or-set_other, length-set, length-map, length-replicate, get_or-replicate}
use Rattle.std.proofs.lemmas.List.Sums.{sum_by-cons}
use Rattle.cnf.specs.Tables.{Assignment, holds, satisfied}
use Rattle.formula.specs.Clauses.{variable_of, names, flip_at, sum_to}
use Rattle.formula.proofs.Sums.{sum_to_same, sum_to_const, any_to_same}
use Rattle.formula.proofs.Counts.{flipped_same, flipped_other}
use Rattle.formula.specs.declared.formula.Formula.{Formula}
use Rattle.formula.specs.declared.given.Given.{Given}
use Rattle.formula.specs.declared.occurrences.Occurrences.{Occurrences}
use Rattle.table.specs.declared.table.Row.{Row}
use Rattle.table.specs.declared.table.Table.{Table}
use Rattle.state.specs.Standing.{model_in, Kept}
use Rattle.table.specs.Weights.{share_of}
use Rattle.state.specs.Model.{Model, assignment, stamp_of, cost_at, cost, total, together, neighbours, flipped, gained_by, smoothed, weighed}
use Rattle.state.specs.Theorems.{Filled, FlipStaysNear, shares, FlipPaysScore, FlipUndone, SmoothingNeverRaises, Pace, Filling, Laws}
use Rattle.state.proofs.Models.{sum_all, column_length, rows_enough, weights_length, clauses_length}
use Rattle.state.proofs.Moves.{length-gained, cond_at, length-cond, smooth_le}

-- a literal of another variable
holds_flip : (x : ℕ) (a : Assignment) (w : ℤ) → eqb (variable_of w) x ≡ false → holds (flip_at x a) w ≡ holds a w
holds_flip x a (pos zero) h = refl
holds_flip x a (pos (suc y)) h = ap (λ b. cond b (not (a y)) (a y)) h
holds_flip x a (negsuc y) h = ap (λ b. not (cond b (not (a y)) (a y))) h

-- a clause that does not name x does not see a flip of x
satisfied_flip : (x : ℕ) (a : Assignment) (c : List ℤ) → names c x ≡ false → satisfied (flip_at x a) c ≡ satisfied a c
satisfied_flip x a [] h = refl
satisfied_flip x a (w ∷ ws) h =
    let ps = or_parts (eqb (variable_of w) x) (names ws x) h in
    ap₂ ◌||◌ (holds_flip x a w ps.0) (satisfied_flip x a ws ps.1)

-- the assignment of a flipped model
flip_assignment : (m : Model) (x : ℕ) → Filled m → x < m.variables → assignment (flipped x m) ≡ flip_at x (assignment m)
flip_assignment m x h l = fun_ext (λ y. ⊎_elim
    (λ (q : y ≡ x). ap (assignment (flipped x m)) q ∙ (get_or-set_same m.values x (not (assignment m x)) false (omega (arith, h.values)) ∙ (sym (flipped_same x (assignment m)) ∙ ap (flip_at x (assignment m)) (sym q))))
    (λ (q : y ≡ x → ⊥). get_or-set_other m.values x y (not (assignment m x)) false q ∙ sym (flipped_other x (assignment m) y q))
    (cases_eq y x))

flip_stamp_same : (m : Model) (x : ℕ) → Filled m → x < m.variables → stamp_of (flipped x m) x ≡ m.tick + 1
flip_stamp_same m x h l = get_or-set_same m.stamps x (m.tick + 1) 0 (omega (arith, h.stamps))

flip_stamp_other : (m : Model) (x y : ℕ) → (y ≡ x → ⊥) → stamp_of (flipped x m) y ≡ stamp_of m y
flip_stamp_other m x y ne = get_or-set_other m.stamps x y (m.tick + 1) 0 ne

-- where no clause names both, a flip of x leaves what a flip of y gains
cost_apart : (x y : ℕ) (a : Assignment) (cs : List (List ℤ)) (ws : List ℕ) → together cs x y ≡ false → cost_at a cs ws + cost_at (flip_at y (flip_at x a)) cs ws ≡ cost_at (flip_at x a) cs ws + cost_at (flip_at y a) cs ws
cost_apart x y a [] ws h = refl
cost_apart x y a (c ∷ cs) [] h = refl
cost_apart x y a (c ∷ cs) (w ∷ ws) h =
    let ps = or_parts (names c x && names c y) (together cs x y) h in
    let k = cost_apart x y a cs ws ps.1 in
    let one : cond (satisfied a c) 0 w + cond (satisfied (flip_at y (flip_at x a)) c) 0 w ≡ cond (satisfied (flip_at x a) c) 0 w + cond (satisfied (flip_at y a) c) 0 w =
    ⊎_elim
    (λ (q : names c x ≡ false).
    let e = satisfied_flip x a c q in
    let f : satisfied (flip_at y (flip_at x a)) c ≡ satisfied (flip_at y a) c = ap (λ b. satisfied b c) (flips_commute x y a) ∙ satisfied_flip x (flip_at y a) c q in
    ap₂ (λ s t. cond s 0 w + cond t 0 w) (sym e) f)
    (λ (q : names c y ≡ false).
    let e = satisfied_flip y a c q in
    let f = satisfied_flip y (flip_at x a) c q in
    let g = ap₂ (λ s t. cond s 0 w + cond t 0 w) (sym e) f in
    omega arith)
    (and_cases (names c x) (names c y) ps.0) in
    omega arith
  where
    flips_commute : (x y : ℕ) (a : Assignment) → flip_at y (flip_at x a) ≡ flip_at x (flip_at y a)
    flips_commute x y a = fun_ext (λ v. go (eqb v x) (eqb v y) (a v))
      where
        go : (p q u : Bool) → cond q (not (cond p (not u) u)) (cond p (not u) u) ≡ cond p (not (cond q (not u) u)) (cond q (not u) u)
        go true true u = refl
        go true false u = refl
        go false true u = refl
        go false false u = refl

apart_near : (m : Model) (x y : ℕ) → (y ≡ x → ⊥) → neighbours m x y ≡ false → together m.clauses x y ≡ false
apart_near m x y ne h =
    ⊎_elim
    (λ (q : not (eqb x y) ≡ false). absurd (false≢true (sym q ∙ not_from_false (eqb x y) (ne_eqb x y (λ e. ne (sym e))))))
    (λ q. q)
    (and_cases (not (eqb x y)) (together m.clauses x y) h)

and_swap : (p q : Bool) → (p && q) ≡ (q && p)
and_swap true true = refl
and_swap true false = refl
and_swap false true = refl
and_swap false false = refl

together_swap : (cs : List (List ℤ)) (x y : ℕ) → together cs x y ≡ together cs y x
together_swap [] x y = refl
together_swap (c ∷ cs) x y = ap₂ ◌||◌ (and_swap (names c x) (names c y)) (together_swap cs x y)

pub near : FlipStaysNear
near m x y h l ne far =
    let apart = apart_near m x y ne far in
    let a = assignment m in
    let k = cost_apart x y a m.clauses m.weights apart in
    let e = flip_assignment m x h l in
    let sy = flip_stamp_other m x y ne in
    let m' = flipped x m in
    record {
      value = get_or-set_other m.values x y (not (assignment m x)) false ne;
      score =
          ap (λ b. pos (cost_at b m.clauses m.weights) -ℤ pos (cost_at (flip_at y b) m.clauses m.weights)) e
          ∙ differ (cost_at a m.clauses m.weights) (cost_at (flip_at y (flip_at x a)) m.clauses m.weights) (cost_at (flip_at x a) m.clauses m.weights) (cost_at (flip_at y a) m.clauses m.weights) k;
      stamp = sy;
      mark = ap₂ ◌||◌ (ap (λ s. eqb s 0) sy)
          (any_to_same m.variables _ _ (λ z _. ⊎_elim
          (λ (q : z ≡ x).
          let no : neighbours m y z ≡ false = ap (neighbours m y) q ∙ and_right _ _ (together_swap m.clauses y x ∙ apart) in
          and_left _ _ no ∙ sym (and_left _ _ no))
          (λ (q : z ≡ x → ⊥). ap₂ (λ s t. neighbours m y z && ltb s t) sy (flip_stamp_other m x z q))
          (cases_eq z x)));
    }
  where
    differ : (p q r s : ℕ) → p + q ≡ r + s → pos r -ℤ pos q ≡ pos p -ℤ pos s
    differ p q r s e = omega (arith, ints)

one_share : (n s t : Bool) (w : ℕ) → (n ≡ false → t ≡ s) → cond n (pos w *ℤ (cond s (pos 0) (pos 1) -ℤ cond t (pos 0) (pos 1))) (pos 0) ≡ pos (cond s 0 w) -ℤ pos (cond t 0 w)
one_share true true true w h = omega (arith, ints)
one_share true true false w h = omega (arith, ints)
one_share true false true w h = omega (arith, ints)
one_share true false false w h = omega (arith, ints)
one_share false s t w h = let e = ap (λ b. cond b 0 w) (h refl) in omega (arith, ints)

by_clauses : (a : Assignment) (x : ℕ) (cs : List (List ℤ)) (ws : List ℕ) → pos (cost_at a cs ws) -ℤ pos (cost_at (flip_at x a) cs ws) ≡ shares a x cs ws
by_clauses a x [] ws = refl
by_clauses a x (c ∷ cs) [] = refl
by_clauses a x (c ∷ cs) (w ∷ ws) =
    split (cond (satisfied a c) 0 w) (cond (satisfied (flip_at x a) c) 0 w) (cost_at a cs ws) (cost_at (flip_at x a) cs ws)
    ∙ ap₂ ◌+ℤ◌ (sym (one_share (names c x) (satisfied a c) (satisfied (flip_at x a) c) w (λ q. satisfied_flip x a c q))) (by_clauses a x cs ws)
  where
    split : (p q r s : ℕ) → pos (p + r) -ℤ pos (q + s) ≡ (pos p -ℤ pos q) +ℤ (pos r -ℤ pos s)
    split p q r s = omega (arith, ints)

pub pays : FlipPaysScore
pays m x h l =
    ap (λ a. pos (cost_at a m.clauses m.weights)) (flip_assignment m x h l)
    ∙ back (cost m) (cost_at (flip_at x (assignment m)) m.clauses m.weights)
  where
    back : (p q : ℕ) → pos q ≡ pos p -ℤ (pos p -ℤ pos q)
    back p q = omega (arith, ints)

flip_filled : (m : Model) (x : ℕ) → Filled m → Filled (flipped x m)
flip_filled m x h = record { values = length-set m.values x (not (assignment m x)) ∙ h.values; stamps = length-set m.stamps x (m.tick + 1) ∙ h.stamps; weights = h.weights }

flip_twice : (x : ℕ) (a : Assignment) → flip_at x (flip_at x a) ≡ a
flip_twice x a = fun_ext (λ y. go (eqb y x) (a y))
  where
    go : (p u : Bool) → cond p (not (cond p (not u) u)) (cond p (not u) u) ≡ u
    go true true = refl
    go true false = refl
    go false u = refl

pub undone : FlipUndone
undone m x h l =
    ap (λ a. cost_at a m.clauses m.weights)
    (flip_assignment (flipped x m) x (flip_filled m x h) l ∙ (ap (flip_at x) (flip_assignment m x h l) ∙ flip_twice x (assignment m)))

pub smoothing : SmoothingNeverRaises
smoothing v ws =
    let n = length ws in
    let b = ltb (300 * n) (sum ws) in
    let h : ℕ → ℕ = λ w. 3 * w / 10 + share_of v n (sum ws) in
    let e : sum (smoothed v ws) ≡ sum_to n (λ k. cond b (h (get_or ws k 0)) (get_or ws k 0)) =
    sum_all (smoothed v ws)
    ∙ (ap (λ k. sum_to k (λ i. get_or (smoothed v ws) i 0)) (length-cond b h ws)
    ∙ sum_to_same n _ _ (λ k l. cond_at b h ws k l)) in
    let s : sum ws ≡ sum_to n (λ k. get_or ws k 0) = sum_all ws in
    let f : sum_to n (λ k. cond b (h (get_or ws k 0)) (get_or ws k 0)) ≡ sum_to n (λ k. cond b (3 * get_or ws k 0 / 10 + share_of v n (sum_to n (λ k. get_or ws k 0))) (get_or ws k 0)) =
    ap (λ t. sum_to n (λ k. cond b (3 * get_or ws k 0 / 10 + share_of v n t) (get_or ws k 0))) s in
    omega (arith, smooth_le v n (λ k. get_or ws k 0) b)

gained-sum : (a : Assignment) (cs : List (List ℤ)) (ws : List ℕ) → sum (gained_by a cs ws) ≤ sum ws + length cs
gained-sum a [] ws = omega arith
gained-sum a (c ∷ cs) [] = omega arith
gained-sum a (c ∷ cs) (w ∷ ws) =
    omega (arith, gained-sum a cs ws, sum_by-cons (λ x. x) w ws, sum_by-cons (λ x. x) (cond (satisfied a c) w (w + 1)) (gained_by a cs ws), one (satisfied a c))
  where
    one : (b : Bool) → cond b w (w + 1) ≤ w + 1
    one true = omega arith
    one false = omega arith

pub weighed-sum : (m : Model) → total (weighed m) ≤ total m + length m.clauses
weighed-sum m = omega (arith, smoothing m.variables (gained_by (assignment m) m.clauses m.weights), gained-sum (assignment m) m.clauses m.weights)

-- one more for each clause
step : (n t : ℕ) → n * (1 + (t + 1)) ≡ n * (1 + t) + n
step n t = let e : 1 + (t + 1) ≡ (1 + t) + 1 = omega arith in ap (λ k. n * k) e ∙ (mul-add n (1 + t) 1 ∙ ap (λ k. n * (1 + t) + k) (mul-one n))

ones : (n : ℕ) → sum (replicate n 1) ≡ n
ones n = sum_all (replicate n 1) ∙ (ap (λ k. sum_to k (λ i. get_or (replicate n 1) i 0)) (length-replicate n 1) ∙ (sum_to_same n _ (λ _. 1) (λ k l. get_or-replicate n k 1 0 l) ∙ (sum_to_const n 1 ∙ mul-one n)))

pub pace : Pace
pace =
    record {
      start = λ v cs values. omega (arith, ones (length cs), mul-one (length cs));
      flip = λ m x h. omega (arith, step (length m.clauses) m.tick);
      tick = λ m h. omega (arith, step (length m.clauses) m.tick);
      weighing = λ m f h. omega (arith, step (length m.clauses) m.tick, weighed-sum m);
      dive = λ m x f h. omega (arith, step (length m.clauses) m.tick, weighed-sum m);
    }

gained-filled : (m : Model) → Filled m → length (weighed m).weights ≡ length m.clauses
gained-filled m h =
    let gs = gained_by (assignment m) m.clauses m.weights in
    length-cond (ltb (300 * length gs) (sum gs)) (λ w. 3 * w / 10 + share_of m.variables (length gs) (sum gs)) gs ∙ length-gained (assignment m) m.clauses m.weights h.weights

pub filling : Filling
filling =
    record {
      start = λ v cs start n. record { values = length-map start (λ b. eqb b 1) ∙ n; stamps = length-replicate v 0; weights = length-replicate (length cs) 1 };
      flip = flip_filled;
      tick = λ m h. record { values = h.values; stamps = h.stamps; weights = h.weights };
      weighing = λ m h. record { values = h.values; stamps = h.stamps; weights = gained-filled m h };
    }

pub laws : Laws
laws = record { filling = filling; near = near; clauses = λ m x. by_clauses (assignment m) x m.clauses m.weights; pays = pays; undone = undone; smoothing = smoothing; pace = pace }

-- the model of a search has all its values, stamps and weights
pub filled : (g : Given) (f : Formula) (o : Occurrences) (t : Table) → Kept g f o t → Filled (model_in g f t)
filled g f o t kept =
    record {
      values = column_length (λ (r : Row). r.value) t.rows f.variables (rows_enough g f o t kept);
      stamps = column_length (λ (r : Row). r.stamp) t.rows f.variables (rows_enough g f o t kept);
      weights = weights_length g f o t kept ∙ clauses_length g f o t kept;
    }
