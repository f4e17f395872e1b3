-- What each call does to the model.
use Rattle.std.proofs.Common.{◌≡◌, ℕ, zero, suc, ◌+◌, ◌*◌, ◌/◌, ◌<◌, ◌≤◌, Bool, true, false, cond, not, eqb, ltb, List, [], ◌∷◌, map, length, get_or, take, set, replicate, ℤ, sum, sym, refl, ap, ◌∙◌, subst, ap₂, ⊎_elim, mul-le-mul, arith}
use Rattle.std.proofs.lemmas.Bool.{cases_eq, eq-eqb, ne_eqb, cond-true, cond-false}
use Rattle.std.proofs.lemmas.List.{ext_get_or, get_or-map, get_or-set_same, get_or-set_other, get_or-replicate, length-map, length-set, length-replicate}
use Rattle.cnf.specs.Tables.{Assignment, satisfied, clauses_of, Legal}
use Rattle.formula.specs.declared.formula.Formula.{Formula}
use Rattle.formula.specs.declared.given.Given.{Given}
use Rattle.formula.specs.declared.occurrences.Occurrences.{Occurrences}
use Rattle.formula.specs.Clauses.{sum_to}
use Rattle.formula.specs.Formulas.{clause_count, words_of, Holds}
use Rattle.formula.specs.Occurrences.{Occurs}
use Rattle.formula.proofs.Sums.{sum_to_same, sum_to_add, sum_to_const}
use Rattle.formula.proofs.Counts.{flipped_same, flipped_other}
use Rattle.formula.proofs.Split.{clauses_legal}
use Rattle.table.specs.declared.table.Row.{Row}
use Rattle.table.specs.declared.table.ClauseRow.{ClauseRow}
use Rattle.table.specs.declared.table.Table.{Table}
use Rattle.table.specs.Weights.{share_of}
use Rattle.state.specs.Model.{Model, assignment, flipped, gained_by, smoothed, weighed, begun, loaded, Paced}
use Rattle.table.specs.Rows.{row0, clause0, value_at, weight_at, count_at, gained}
use Rattle.table.specs.Sound.{Sound, Flipped, Weighed, weighed_at, Begun}
use Rattle.state.specs.Standing.{model_in, Kept}
use Rattle.state.proofs.Models.{column, column_length, sum_all, rows_enough, clauses_enough, value_is, weight_is, weights_length, clauses_length, satisfied_is, total_is}
use Rattle.table.proofs.Weighings.{gained_light, tenths}
use Rattle.table.proofs.Weighs.{ten_shares}

module _ {X Y : Type 0} (g : X → Y) (xs ys : List X) (n : ℕ) (d : X) (e : Y) (l : n ≤ length xs) (m : n ≤ length ys) where
  column_same : ((k : ℕ) → k < n → g (get_or ys k d) ≡ g (get_or xs k d)) → map g (take n ys) ≡ map g (take n xs)
  column_same h =
      ext_get_or e (map g (take n ys)) (map g (take n xs)) (column_length g ys n m ∙ sym (column_length g xs n l))
      (λ k s. let s' : k < n = omega (arith, column_length g ys n m) in column g ys n k d e m s' ∙ (h k s' ∙ sym (column g xs n k d e l s')))

  column_set : (x : ℕ) (v : Y) → x < n → g (get_or ys x d) ≡ v → ((k : ℕ) → k < n → (k ≡ x → ⊥) → g (get_or ys k d) ≡ g (get_or xs k d)) → map g (take n ys) ≡ set (map g (take n xs)) x v
  column_set x v s a b =
      let lx = column_length g xs n l in
      let ly = column_length g ys n m in
      ext_get_or e (map g (take n ys)) (set (map g (take n xs)) x v) (ly ∙ sym (length-set (map g (take n xs)) x v ∙ lx))
      (λ k s. let s' : k < n = omega (arith, ly) in
      ⊎_elim
      (λ (q : k ≡ x). ap (λ k. get_or (map g (take n ys)) k e) q ∙ (column g ys n x d e m (omega arith) ∙ (a ∙ (sym (get_or-set_same (map g (take n xs)) x v e (omega arith)) ∙ ap (λ k. get_or (set (map g (take n xs)) x v) k e) (sym q)))))
      (λ (q : k ≡ x → ⊥). column g ys n k d e m s' ∙ (b k s' q ∙ (sym (column g xs n k d e l s') ∙ sym (get_or-set_other (map g (take n xs)) x k v e q))))
      (cases_eq k x))

column_is : {X Y : Type 0} (g : X → Y) (ys : List X) (n : ℕ) (d : X) (e : Y) (zs : List Y) → n ≤ length ys → length zs ≡ n → ((k : ℕ) → k < n → g (get_or ys k d) ≡ get_or zs k e) → map g (take n ys) ≡ zs
column_is g ys n d e zs m z h =
    ext_get_or e (map g (take n ys)) zs (column_length g ys n m ∙ sym z)
    (λ k s. let s' : k < n = omega (arith, column_length g ys n m) in column g ys n k d e m s' ∙ h k s')

sum_same : (f : Formula) (t u : Table) → Sound f t → Sound f u → ((k : ℕ) → k < (clause_count f) → weight_at u k ≡ weight_at t k) → u.total ≡ t.total
sum_same f t u s r h = r.totals ∙ (sum_to_same (clause_count f) (weight_at u) (weight_at t) h ∙ sym s.totals)

-- a flip
module _ (g : Given) (f : Formula) (o : Occurrences) (t u : Table) (x : ℕ) (kept : Kept g f o t) (l : x < f.variables) (ticks : t.tick < 1000000) (h : Flipped f x t u) where
  rows_now : f.variables ≤ length u.rows
  rows_now = omega (arith, f.made.few_variables, u.size)

  pub flip_model : model_in g f u ≡ flipped x (model_in g f t)
  flip_model =
      let values = column_set (λ (r : Row). r.value) t.rows u.rows f.variables row0 false (rows_enough g f o t kept) rows_now x (not (assignment (model_in g f t) x)) l
      (h.values x ∙ (flipped_same x (value_at t) ∙ ap not (sym (value_is g f o t kept x l))))
      (λ k _ ne. h.values k ∙ flipped_other x (value_at t) k ne) in
      let stamps = column_set (λ (r : Row). r.stamp) t.rows u.rows f.variables row0 0 (rows_enough g f o t kept) rows_now x (t.tick + 1) l
      (h.stamps x ∙ cond-true _ _ _ (eq-eqb x x refl))
      (λ k _ ne. h.stamps k ∙ cond-false _ _ _ (ne_eqb k x ne)) in
      let weights = column_same (λ (r : ClauseRow). r.weight) t.clauses u.clauses (clause_count f) clause0 0 (clauses_enough g f o t kept) (omega (arith, f.made.few_clauses, u.clause_size)) (λ k _. h.weights k) in
      λ i. record { variables = f.variables; clauses = clauses_of (words_of g); values = values i; weights = weights i; stamps = stamps i; tick = h.ticks i }

  pub flip_kept : Kept g f o u
  flip_kept =
      record {
        some = kept.some;
        holds = kept.holds;
        occurs = kept.occurs;
        sound = h.sound;
        limited = omega (arith, kept.limited, sum_same f t u kept.sound h.sound (λ k _. h.weights k));
        ticks = omega (arith, h.ticks);
      }

-- the start of a search
module _ (g : Given) (f : Formula) (o : Occurrences) (u : Table) (start : List ℕ) (cs : List (List ℤ)) (is : clauses_of (words_of g) ≡ cs) (holds : Holds f.variables cs f) (occurs : Occurs f o) (n : length start ≡ f.variables) (h : Begun f start u) where
  pub begin_model : model_in g f u ≡ begun f.variables cs start
  begin_model =
      let rows : f.variables ≤ length u.rows = omega (arith, f.made.few_variables, u.size) in
      let values = column_is (λ (r : Row). r.value) u.rows f.variables row0 false (map (λ b. eqb b 1) start) rows (length-map start (λ b. eqb b 1) ∙ n)
      (λ k l. h.values k l ∙ sym (get_or-map (λ b. eqb b 1) start k 0 false (omega arith))) in
      let stamps = column_is (λ (r : Row). r.stamp) u.rows f.variables row0 0 (replicate f.variables 0) rows (length-replicate f.variables 0)
      (λ k l. h.stamps k l ∙ sym (get_or-replicate f.variables k 0 0 l)) in
      let weights = column_is (λ (r : ClauseRow). r.weight) u.clauses (clause_count f) clause0 0 (replicate (length cs) 1) (omega (arith, f.made.few_clauses, u.clause_size)) (length-replicate (length cs) 1 ∙ sym holds.clauses)
      (λ k l. h.weights k l ∙ sym (get_or-replicate (length cs) k 1 0 (omega (arith, holds.clauses)))) in
      λ i. record { variables = f.variables; clauses = is i; values = values i; weights = weights i; stamps = stamps i; tick = h.ticks i }

  pub begin_kept : (0 < f.variables) × (0 < (clause_count f)) → Kept g f o u
  begin_kept some =
      record {
        some = some;
        holds = subst (λ ds. Holds f.variables ds f) (sym is) holds;
        occurs = occurs;
        sound = h.sound;
        limited = omega (arith, h.sound.totals, sum_to_same (clause_count f) (weight_at u) (λ _. 1) h.weights, sum_to_const (clause_count f) 1, f.made.few_clauses);
        ticks = omega (arith, h.ticks);
      }

-- a search over a table
module _ (g : Given) (f : Formula) (o : Occurrences) (u : Table) (v : ℕ) (words : List ℤ) (start : List ℕ) (legal : Legal v words) (n : length start ≡ v) (is : words_of g ≡ words) (h : Holds v (clauses_of words) f) (occurs : Occurs f o) (b : Begun f start u) where
  holds : Holds f.variables (clauses_of words) f
  holds = subst (λ x. Holds x (clauses_of words) f) (sym h.variables) h

  pub load_model : model_in g f u ≡ loaded v words start
  load_model = begin_model g f o u start (clauses_of words) (ap clauses_of is) holds occurs (n ∙ sym h.variables) b ∙ ap (λ x. begun x (clauses_of words) start) h.variables

  pub load_kept : Kept g f o u
  load_kept =
      let x : 0 < f.variables = omega (arith, h.variables, legal.variables.0) in
      let k : 0 < clause_count f = omega (arith, h.clauses, ap length (clauses_legal v words legal), legal.number) in
      begin_kept g f o u start (clauses_of words) (ap clauses_of is) holds occurs (n ∙ sym h.variables) b (x, k)

-- a tick
module _ (g : Given) (f : Formula) (o : Occurrences) (t : Table) (kept : Kept g f o t) (l : t.tick < 1000000) where
  abbrev pub later : Table
  later = record { rows = t.rows; clauses = t.clauses; cost = t.cost; total = t.total; tick = t.tick + 1; size = t.size; clause_size = t.clause_size }

  pub tick_kept : Kept g f o later
  tick_kept =
      let s = kept.sound in
      record {
        some = kept.some;
        holds = kept.holds;
        occurs = kept.occurs;
        sound = record { light = s.light; counts = s.counts; scores = s.scores; costs = s.costs; totals = s.totals; marks = s.marks; stamps = λ y m. omega (arith, s.stamps y m) };
        limited = kept.limited;
        ticks = omega arith;
      }

-- the weights that a weighing gives, as a list
pub length-gained : (a : Assignment) (cs : List (List ℤ)) (ws : List ℕ) → length ws ≡ length cs → length (gained_by a cs ws) ≡ length cs
length-gained a [] ws e = refl
length-gained a (c ∷ cs) [] e = absurd (omega arith)
length-gained a (c ∷ cs) (w ∷ ws) e = omega (arith, length-gained a cs ws (omega arith))

gained_at : (a : Assignment) (cs : List (List ℤ)) (ws : List ℕ) (k : ℕ) → length ws ≡ length cs → k < length cs → get_or (gained_by a cs ws) k 0 ≡ cond (satisfied a (get_or cs k [])) (get_or ws k 0) (get_or ws k 0 + 1)
gained_at a [] ws k e l = absurd (omega arith)
gained_at a (c ∷ cs) [] k e l = absurd (omega arith)
gained_at a (c ∷ cs) (w ∷ ws) zero e l = refl
gained_at a (c ∷ cs) (w ∷ ws) (suc k) e l = gained_at a cs ws k (omega arith) (omega arith)

pub length-cond : (b : Bool) (h : ℕ → ℕ) (gs : List ℕ) → length (cond b (map h gs) gs) ≡ length gs
length-cond true h gs = length-map gs h
length-cond false h gs = refl

pub cond_at : (b : Bool) (h : ℕ → ℕ) (gs : List ℕ) (k : ℕ) → k < length gs → get_or (cond b (map h gs) gs) k 0 ≡ cond b (h (get_or gs k 0)) (get_or gs k 0)
cond_at true h gs k l = get_or-map h gs k 0 0 l
cond_at false h gs k l = refl

-- smoothing never raises the sum
pub smooth_le : (v n : ℕ) (G : ℕ → ℕ) (b : Bool) → sum_to n (λ k. cond b (3 * G k / 10 + share_of v n (sum_to n G)) (G k)) ≤ sum_to n G
smooth_le v n G true =
    let q = share_of v n (sum_to n G) in
    omega (arith, sum_to_add n (λ k. 3 * G k / 10) (λ _. q), sum_to_const n q, tenths n G, ten_shares v n (sum_to n G))
smooth_le v n G false = omega arith

-- a weighing
module _ (g : Given) (f : Formula) (o : Occurrences) (t u : Table) (kept : Kept g f o t) (h : Weighed f t u) where
  abbrev m : Model
  m = model_in g f t

  abbrev cs : List (List ℤ)
  cs = clauses_of (words_of g)

  abbrev gs : List ℕ
  gs = gained_by (assignment m) cs m.weights

  same_length : length m.weights ≡ length cs
  same_length = weights_length g f o t kept ∙ clauses_length g f o t kept

  gs_length : length gs ≡ (clause_count f)
  gs_length = length-gained (assignment m) cs m.weights same_length ∙ sym (clauses_length g f o t kept)

  gs_at : (k : ℕ) → k < (clause_count f) → get_or gs k 0 ≡ gained t k
  gs_at k l =
      gained_at (assignment m) cs m.weights k same_length (omega (arith, clauses_length g f o t kept))
      ∙ (ap₂ (λ s w. cond s w (w + 1)) (satisfied_is g f o t kept (assignment m) (value_at t) (value_is g f o t kept) k l ∙ ap (λ n. not (eqb n 0)) (sym (kept.sound.counts k l))) (weight_is g f o t kept k l)
      ∙ turn (eqb (count_at t k) 0) (weight_at t k))
    where
      turn : (b : Bool) (w : ℕ) → cond (not b) w (w + 1) ≡ w + cond b 1 0
      turn true w = refl
      turn false w = omega arith

  gs_sum : sum gs ≡ sum_to (clause_count f) (gained t)
  gs_sum = sum_all gs ∙ (ap (λ n. sum_to n (λ k. get_or gs k 0)) gs_length ∙ sum_to_same (clause_count f) _ _ gs_at)

  new_at : (k : ℕ) → k < (clause_count f) → get_or (smoothed f.variables gs) k 0 ≡ weighed_at f t k
  new_at k l =
      cond_at (ltb (300 * length gs) (sum gs)) (λ w. 3 * w / 10 + share_of f.variables (length gs) (sum gs)) gs k (omega (arith, gs_length))
      ∙ (ap (λ w. cond (ltb (300 * length gs) (sum gs)) (3 * w / 10 + share_of f.variables (length gs) (sum gs)) w) (gs_at k l)
      ∙ ap₂ (λ n s. cond (ltb (300 * n) s) (3 * gained t k / 10 + share_of f.variables n s) (gained t k)) gs_length gs_sum)

  pub weigh_model : model_in g f u ≡ weighed m
  weigh_model =
      let rows : f.variables ≤ length u.rows = omega (arith, f.made.few_variables, u.size) in
      let values = column_same (λ (r : Row). r.value) t.rows u.rows f.variables row0 false (rows_enough g f o t kept) rows (λ k _. h.values k) in
      let stamps = column_same (λ (r : Row). r.stamp) t.rows u.rows f.variables row0 0 (rows_enough g f o t kept) rows (λ k _. h.stamps k) in
      let weights = column_is (λ (r : ClauseRow). r.weight) u.clauses (clause_count f) clause0 0 (smoothed f.variables gs) (omega (arith, f.made.few_clauses, u.clause_size)) (length-cond (ltb (300 * length gs) (sum gs)) (λ w. 3 * w / 10 + share_of f.variables (length gs) (sum gs)) gs ∙ gs_length)
      (λ k l. h.weights k l ∙ sym (new_at k l)) in
      λ i. record { variables = f.variables; clauses = cs; values = values i; weights = weights i; stamps = stamps i; tick = h.ticks i }

  -- the sum grows by at most 1 for each clause
  pub weigh_grows : u.total ≤ t.total + (clause_count f)
  weigh_grows =
      omega (arith, h.sound.totals, sum_to_same (clause_count f) (weight_at u) (weighed_at f t) h.weights, smooth_le f.variables (clause_count f) (gained t) (ltb (300 * (clause_count f)) (sum_to (clause_count f) (gained t))), gained_light (clause_count f) t, kept.sound.totals)

  pub weigh_kept : Paced m → t.tick < 1000000 → Kept g f o u
  weigh_kept paced l =
      let a : (clause_count f) * (1 + t.tick) ≤ 1024 * 1000000 = mul-le-mul {m₁ = 1 + t.tick} {m₂ = 1000000} f.made.few_clauses (omega arith) in
      let b : length cs * (1 + t.tick) ≡ (clause_count f) * (1 + t.tick) = ap (λ n. n * (1 + t.tick)) (sym (clauses_length g f o t kept)) in
      record {
        some = kept.some;
        holds = kept.holds;
        occurs = kept.occurs;
        sound = h.sound;
        limited = omega (arith, weigh_grows, total_is g f o t kept, paced, f.made.few_clauses);
        ticks = omega (arith, h.ticks);
      }
