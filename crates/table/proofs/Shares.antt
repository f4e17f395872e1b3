-- A clause's share of the cost and of the scores.
use Rattle.std.proofs.Common.{◌≡◌, ℕ, ◌+◌, ◌-◌, ◌^◌, ◌<◌, ◌≤◌, Bool, true, false, cond, not, eqb, ltb, List, length, get_or, ℤ, pos, ◌+ℤ◌, ◌-ℤ◌, sym, refl, ap, ◌∙◌, subst, ap₂, arith, w64, to_z, of_z}
use mathlib.Core.Path.{fun_ext}
use Rattle.std.proofs.lemmas.Int.{ints}
use Rattle.std.proofs.lemmas.Bool.{cond-true, cond-false, lt-ltb, le-ltb}
use Rattle.std.proofs.lemmas.Bool.Decides.{nat_tests}
use Rattle.formula.specs.declared.entry.Entry.{Entry}
use Rattle.formula.specs.Clauses.{sum_to, flip_at}
use Rattle.formula.specs.Entries.{trues, count, named_in, Distinct, entry0}
use Rattle.formula.proofs.Sums.{sum_to_same, sum_to_le, sum_to_change}
use Rattle.formula.proofs.Counts.{named_at, flipped_other, count_absent, count_at_lem, trues_le_count}
use Rattle.table.specs.declared.table.ClauseRow.{ClauseRow}
use Rattle.table.specs.Rows.{Rules, loss, cost_in, score_in, gain_z, shift_z, loss_at, turn, Within}
use Rattle.table.specs.Sound.{partly, cost_between, score_between}

pub partly_none : (n : ℕ) (g h : ℕ → ℕ) → partly n 0 g h ≡ sum_to n g
partly_none n g h = sum_to_same n _ _ (λ k l. cond-false _ _ _ (le-ltb k 0 (omega arith)))

pub partly_all : (n : ℕ) (g h : ℕ → ℕ) → partly n n g h ≡ sum_to n h
partly_all n g h = sum_to_same n _ _ (λ k l. rw (lt-ltb k n l))

pub partly_more : (n i : ℕ) (g h : ℕ → ℕ) → i < n → partly n (i + 1) g h + g i ≡ partly n i g h + h i
partly_more n i g h l =
    let e = sum_to_change n (λ k. cond (ltb k i) (h k) (g k)) (λ k. cond (ltb k (i + 1)) (h k) (g k)) i l (λ k m ne. grind (arith, nat_tests)) in
    let p : cond (ltb i i) (h i) (g i) ≡ g i = cond-false _ _ _ (le-ltb i i (omega arith)) in
    let q : cond (ltb i (i + 1)) (h i) (g i) ≡ h i = cond-true _ _ _ (lt-ltb i (i + 1) (omega arith)) in
    omega arith

pub partly_le : (n i : ℕ) (g h w : ℕ → ℕ) → ((k : ℕ) → k < n → g k ≤ w k) → ((k : ℕ) → k < n → h k ≤ w k) → partly n i g h ≤ sum_to n w
partly_le n i g h w p q = sum_to_le n _ w (λ k l. let a = p k l in let b = q k l in grind (arith, nat_tests))

pub gain_at : (w : ℕ) (a : ℕ → Bool) (es : List Entry) (j : ℕ) → j < length es → Distinct es → (e : Entry) → e ≡ get_or es j entry0 → gain_z w (count a es) (trues (a e.variable) e) (trues (not (a e.variable)) e) ≡ pos (loss_at w a es) -ℤ pos (loss_at w (flip_at e.variable a) es)
gain_at w a es j l d e q =
    let m : count a es - trues (a e.variable) e + trues (not (a e.variable)) e ≡ count (flip_at e.variable a) es = omega (arith, count_at_lem a es j l d e q, trues_le_count a es j l e q) in
    ap (λ n. pos (loss_at w a es) -ℤ pos (cond (eqb n 0) w 0)) m

pub shift_at : (c d : ClauseRow) (a : ℕ → Bool) (x : ℕ) (es : List Entry) (j : ℕ) → j < length es → Distinct es → (e : Entry) → e ≡ get_or es j entry0 → (e.variable ≡ x → ⊥) → c.count ≡ count a es → d.count ≡ count (flip_at x a) es → shift_z c d (a e.variable) e ≡ turn c.weight d.weight a (flip_at x a) es e.variable
unfolding shift_z turn
shift_at c d a x es j l dis e q ne ec ed =
    let s = flipped_other x a e.variable ne in
    let w = d.weight in
    let h : gain_z w (count (flip_at x a) es) (trues (a e.variable) e) (trues (not (a e.variable)) e) ≡ pos (loss_at w (flip_at x a) es) -ℤ pos (loss_at w (flip_at e.variable (flip_at x a)) es) =
    subst (λ u. gain_z w (count (flip_at x a) es) (trues u e) (trues (not u) e) ≡ pos (loss_at w (flip_at x a) es) -ℤ pos (loss_at w (flip_at e.variable (flip_at x a)) es)) s (gain_at w (flip_at x a) es j l dis e q) in
    ap₂ ◌-ℤ◌ (ap (λ n. gain_z w n (trues (a e.variable) e) (trues (not (a e.variable)) e)) ed ∙ h)
    (ap (λ n. gain_z c.weight n (trues (a e.variable) e) (trues (not (a e.variable)) e)) ec ∙ gain_at c.weight a es j l dis e q)

pub turn_absent : (w v : ℕ) (a b : ℕ → Bool) (es : List Entry) (y : ℕ) → named_in es y ≡ false → turn w v a b es y ≡ pos 0
unfolding turn
turn_absent w v a b es y h =
    let p = count_absent a y es h in
    let q = count_absent b y es h in
    let m : loss_at w (flip_at y a) es ≡ loss_at w a es = ap (λ n. cond (eqb n 0) w 0) p in
    let n : loss_at v (flip_at y b) es ≡ loss_at v b es = ap (λ n. cond (eqb n 0) v 0) q in
    omega (arith, ints)

module _ (r : Rules) (a b : ℕ → Bool) (i : ℕ) (l : i < r.number) (es : List Entry) (is : r.entries i ≡ es) where
  at : (a : ℕ → Bool) → loss r a i ≡ loss_at (r.weight i) a es
  at a = ap (λ es. loss_at (r.weight i) a es) is

  pub cost_more : cost_between r (i + 1) a b + loss_at (r.weight i) a es ≡ cost_between r i a b + loss_at (r.weight i) b es
  cost_more = omega (arith, partly_more r.number i (loss r a) (loss r b) l, at a, at b)

  pub score_more : (y : ℕ) → score_between r (i + 1) a b y ≡ score_between r i a b y +ℤ turn (r.weight i) (r.weight i) a b es y
  unfolding turn
  score_more y =
      let p = cost_more in
      let q : cost_between r (i + 1) (flip_at y a) (flip_at y b) + loss_at (r.weight i) (flip_at y a) es ≡ cost_between r i (flip_at y a) (flip_at y b) + loss_at (r.weight i) (flip_at y b) es =
      omega (arith, partly_more r.number i (loss r (flip_at y a)) (loss r (flip_at y b)) l, at (flip_at y a), at (flip_at y b)) in
      omega (arith, ints)

loss_le : (r : Rules) (a : ℕ → Bool) (k : ℕ) → loss r a k ≤ r.weight k
loss_le r a k = go (eqb (count a (r.entries k)) 0)
  where
    go : (b : Bool) → cond b (r.weight k) 0 ≤ r.weight k
    go true = omega arith
    go false = omega arith

pub cost_le : (r : Rules) (i : ℕ) (a b : ℕ → Bool) → cost_between r i a b ≤ sum_to r.number r.weight
cost_le r i a b = partly_le r.number i (loss r a) (loss r b) r.weight (λ k _. loss_le r a k) (λ k _. loss_le r b k)

pub gain_within : (w n t f : ℕ) → w < 2 ^ 32 → Within (gain_z w n t f)
gain_within w n t f l = go (eqb n 0) (eqb (n - t + f) 0)
  where
    go : (p q : Bool) → Within (pos (cond p w 0) -ℤ pos (cond q w 0))
    go true true = omega (arith, ints)
    go true false = omega (arith, ints)
    go false true = omega (arith, ints)
    go false false = omega (arith, ints)

-- a difference of two numbers of 64 bits, as the code reads it
pub read_sub : (p q : ℤ) → Within p → Within q → to_z w64 (of_z w64 (to_z w64 (of_z w64 p) -ℤ to_z w64 (of_z w64 q))) ≡ p -ℤ q
read_sub p q u v = omega (arith, ints)

-- the true count once the variable of the entry at j is flipAt
module _ (a : ℕ → Bool) (es : List Entry) (j x n t f : ℕ) (l : j < length es) (d : Distinct es) (q : (get_or es j entry0).variable ≡ x) (en : n ≡ count a es) (et : t ≡ trues (a x) (get_or es j entry0)) (ef : f ≡ trues (not (a x)) (get_or es j entry0)) where
  abbrev e : Entry
  e = get_or es j entry0

  pub after_le : t ≤ n
  after_le =
      let s : trues (a x) e ≡ trues (a e.variable) e = ap (λ v. trues (a v) e) (sym q) in
      omega (arith, trues_le_count a es j l e refl)

  pub after_is : (n - t) + f ≡ count (flip_at x a) es
  after_is =
      let k : count (flip_at x a) es + trues (a x) e ≡ count a es + trues (not (a x)) e = subst (λ v. count (flip_at v a) es + trues (a v) e ≡ count a es + trues (not (a v)) e) q (count_at_lem a es j l d e refl) in
      omega (arith, after_le)

  pub after_named : named_in es x ≡ true
  after_named = subst (λ v. named_in es v ≡ true) q (named_at es j l)

pub flipped_comm : (x y : ℕ) (a : ℕ → Bool) → flip_at y (flip_at x a) ≡ flip_at x (flip_at y a)
flipped_comm x y a = fun_ext (λ v. go (eqb v x) (eqb v y) (a v))
  where
    go : (p q u : Bool) → cond q (not (cond p (not u) u)) (cond p (not u) u) ≡ cond p (not (cond q (not u) u)) (cond q (not u) u)
    go true true u = refl
    go true false u = refl
    go false true u = refl
    go false false u = refl

-- a clause that does not name x keeps its shares of all scores
pub turn_off : (w : ℕ) (a : ℕ → Bool) (x : ℕ) (es : List Entry) (y : ℕ) → named_in es x ≡ false → turn w w a (flip_at x a) es y ≡ pos 0
unfolding turn
turn_off w a x es y h =
    let p = count_absent a x es h in
    let q : count (flip_at y (flip_at x a)) es ≡ count (flip_at y a) es = ap (λ b. count b es) (flipped_comm x y a) ∙ count_absent (flip_at y a) x es h in
    let u : loss_at w (flip_at x a) es ≡ loss_at w a es = ap (λ n. cond (eqb n 0) w 0) p in
    let v : loss_at w (flip_at y (flip_at x a)) es ≡ loss_at w (flip_at y a) es = ap (λ n. cond (eqb n 0) w 0) q in
    omega (arith, ints)

-- flipping a variable that the clause does not name does not count
pub turn_still : (w v : ℕ) (a : ℕ → Bool) (x : ℕ) (es : List Entry) (y : ℕ) → named_in es x ≡ false → turn w v a (flip_at x a) es y ≡ turn w v a a es y
unfolding turn
turn_still w v a x es y h =
    let p : count (flip_at x a) es ≡ count a es = count_absent a x es h in
    let q : count (flip_at y (flip_at x a)) es ≡ count (flip_at y a) es = ap (λ b. count b es) (flipped_comm x y a) ∙ count_absent (flip_at y a) x es h in
    ap₂ (λ m n. (pos (cond (eqb m 0) v 0) -ℤ pos (cond (eqb n 0) v 0)) -ℤ (pos (loss_at w a es) -ℤ pos (loss_at w (flip_at y a) es))) p q

-- one clause gets another weight
module _ (n : ℕ) (cl : ℕ → List Entry) (W V : ℕ → ℕ) (i : ℕ) (l : i < n) (others : (k : ℕ) → (k ≡ i → ⊥) → V k ≡ W k) (es : List Entry) (is : cl i ≡ es) where
  abbrev r : (ℕ → ℕ) → Rules
  r w = record { number = n; entries = cl; weight = w }

  pub cost_reweighed : (a : ℕ → Bool) → cost_in (r V) a + loss_at (W i) a es ≡ cost_in (r W) a + loss_at (V i) a es
  cost_reweighed a =
      let e = sum_to_change n (loss (r W) a) (loss (r V) a) i l (λ k _ ne. ap (λ w. loss_at w a (cl k)) (others k ne)) in
      let p : loss (r W) a i ≡ loss_at (W i) a es = ap (λ es. loss_at (W i) a es) is in
      let q : loss (r V) a i ≡ loss_at (V i) a es = ap (λ es. loss_at (V i) a es) is in
      omega arith

  pub score_reweighed : (a : ℕ → Bool) (y : ℕ) → score_in (r V) a y ≡ score_in (r W) a y +ℤ turn (W i) (V i) a a es y
  unfolding turn
  score_reweighed a y = let p = cost_reweighed a in let q = cost_reweighed (flip_at y a) in omega (arith, ints)
