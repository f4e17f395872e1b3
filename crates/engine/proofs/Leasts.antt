-- The least of a chain's items by their keys, as the fold that picks one.
use Rattle.std.proofs.Common.{◌≡◌, ℕ, zero, suc, ◌+◌, Bool, cond, List, [], ◌∷◌, ◌++◌, map, Some, None, fold, Option, refl, sym, ap, ◌∙◌, subst, Bor, Ordering, Less, Equal, Greater, arith}
use Rattle.std.specs.Fn.{CalledAt, TakesAt}
use Rattle.std.specs.List.{AllByRecursion, filter, range_with_len}
use Rattle.std.proofs.lemmas.List.Elements.{filter-append}
use Rattle.formula.specs.Occurrences.{passing}
use Rattle.std.specs.Iterator.{Yields, KeyTurn, PicksMinByKey, CallableInMinByKey}
use Rattle.std.specs.Ordering.{min_by_ordering}
use Rattle.std.proofs.lemmas.Fn.{chained_keeps, serves_by}
use Rattle.std.proofs.lemmas.Iterator.{YieldsList, items_from_drains}
use Rattle.std.proofs.lemmas.List.Sums.{fold_push}
use Rattle.policy.specs.declared.admission.Level.{Level}
use Rattle.policy.specs.Levels.{Levels}
use Rattle.policy.specs.Numbers.{level_number}
use Rattle.state.specs.Model.{Model, score, stamp_of}
use Rattle.engine.specs.declared.picks.Rank.{Rank}
use Rattle.engine.specs.Picks.{level_of, challenged, best_of}
use denote.Param.Members.{Mut}

-- the rank of a variable, and its level with that
abbrev pub RankIs : Model → ℕ → Rank → Type 0
RankIs m x k = (k.score.0 ≡ score m x) × (k.stamp ≡ stamp_of m x)

abbrev pub StandingIs : Levels → Model → ℕ → Option Level × Rank → Type 0
StandingIs f m x k = (level_number k.0 ≡ level_of f m x) × RankIs m x k.1

map_same : (xs : List ℕ) → map (λ x. x) xs ≡ xs
map_same [] = refl
map_same (x ∷ xs) = ap (λ k. x ∷ k) (map_same xs)

each_yielded : {S : Type 0} (steps : S → Option ℕ → S → Type 0) (P : ℕ → Type 0) (s : S) (all : List ℕ) → YieldsList steps (λ x. x) s all → AllByRecursion P all → (xs : List ℕ) (t : S) (x : ℕ) (u : S) → Yields steps s xs t → steps t (Some x) u → P x
each_yielded steps P s [] road h [] t x u e st = absurd (road.runs x u (subst (λ v. steps v (Some x) u) (sym e) st))
each_yielded steps P s [] road h (z ∷ xs) t x u e st = absurd (road.runs z e.0 e.1)
each_yielded steps P s (y ∷ ys) road h [] t x u e st = subst P (sym (road.runs.1 x u (subst (λ v. steps v (Some x) u) (sym e) st)).0) h.0
each_yielded steps P s (y ∷ ys) road h (z ∷ xs) t x u e st = each_yielded steps P e.0 ys (record { runs = (road.runs.1 z e.0 e.1).1 }) h.1 xs t x u e.2 st

range_more : (a n : ℕ) → range_with_len a (suc n) ≡ range_with_len a n ++ (a + n) ∷ []
range_more a zero = ap (λ k. k ∷ []) (omega arith)
range_more a (suc n) = ap (λ k. a ∷ k) (range_more (a + 1) n ∙ ap (λ k. range_with_len (a + 1) n ++ k ∷ []) (omega arith))

pub filtered_passing : (p : ℕ → Bool) (n : ℕ) → filter p (range_with_len 0 n) ≡ passing p n
filtered_passing p zero = refl
filtered_passing p (suc n) = ap (filter p) (range_more 0 n ∙ ap (λ k. range_with_len 0 n ++ k ∷ []) (omega arith)) ∙ filter-append p (range_with_len 0 n) (n ∷ []) ∙ ap (λ k. k ++ cond (p n) (n ∷ []) []) (filtered_passing p n)

module _ {F K : Type 0} (g : Mut F (Bor ℕ × Unit {0}) K) (cmp : K → K → Ordering) (f : F) (Is : ℕ → K → Type 0) (called : (x : ℕ) (k : K) (q : F) → CalledAt g f x k q → Is x k × (q ≡ f)) where
  turn_called : (p : (F × K) × ℕ) (x : ℕ) (q : (F × K) × ℕ) → p.0.0 ≡ f → (t : KeyTurn min_by_ordering min_by_ordering g cmp p x q) → Is x t.0 × (q.0.0 ≡ f)
  turn_called p x q h t = called x t.0 q.0.0 (subst (λ s. CalledAt g s x t.0 q.0.0) h t.2)

  pub least_callable : {S : Type 0} {steps : S → Option ℕ → S → Type 0} {s : S} {all : List ℕ} → YieldsList steps (λ x. x) s all → AllByRecursion (TakesAt g f) all → CallableInMinByKey steps g cmp s f
  least_callable {steps} {s} {all} road takes x t e = (
    each_yielded steps (TakesAt g f) s all road takes [] s x t refl e,
    λ k q c. serves_by (KeyTurn min_by_ordering min_by_ordering g cmp) (λ _ p. p.0.0 ≡ f) (λ _ p z v h w. (turn_called p z v h w).1) steps (λ p z. TakesAt g p.0.0 z) t ((q, k), x) (called x k q c).1
        (λ xs j p z u y st h. subst (λ o. TakesAt g o z) (sym h) (each_yielded steps (TakesAt g f) s all road takes (x ∷ xs) j z u (t, e, y) st)),
  )

  module _ (before : ℕ → ℕ → Bool) (tells : (o : Ordering) (b x : ℕ) (kb kx : K) → Is b kb → Is x kx → cmp kb kx ≡ o → min_by_ordering o b x ≡ cond (before x b) x b) where
    picked_is : (o : Ordering) (b x : ℕ) (kb kx : K) → Is b kb → Is x kx → Is (min_by_ordering o b x) (min_by_ordering o kb kx)
    picked_is Less b x kb kx p q = p
    picked_is Equal b x kb kx p q = p
    picked_is Greater b x kb kx p q = q

    abbrev Best : ℕ → List ℕ → (F × K) × ℕ → Type 0
    Best a xs p = (p.0.0 ≡ f) × Is p.1 p.0.1 × (fold (challenged before) (Some a) xs ≡ Some p.1)

    keeps : (a : ℕ) (xs : List ℕ) (p : (F × K) × ℕ) (x : ℕ) (q : (F × K) × ℕ) → Best a xs p → KeyTurn min_by_ordering min_by_ordering g cmp p x q → Best a (xs ++ (x ∷ [])) q
    keeps a xs p x q h t =
        let c = turn_called p x q h.0 t in (
          c.1,
          subst (λ y. Is y q.0.1) (sym t.5) (subst (λ k. Is (min_by_ordering t.1 p.1 x) k) (sym t.4) (picked_is t.1 p.1 x p.0.1 t.0 h.1 c.0)),
          fold_push (challenged before) (Some a) xs x ∙ ap (λ o. challenged before o x) h.2 ∙ ap Some (sym (tells t.1 p.1 x p.0.1 t.0 h.1 c.0 t.3) ∙ sym t.5),
        )

    pub least_is : {S : Type 0} {steps : S → Option ℕ → S → Type 0} {s : S} {all : List ℕ} (r : Option ℕ) → PicksMinByKey steps g cmp s f r → YieldsList steps (λ x. x) s all → r ≡ best_of before all
    least_is None d road = ap (best_of before) (items_from_drains [] (d.1.0, d.1.1, λ _. (d.0, d.1.2)) road)
    least_is (Some y) d road =
        let c = called d.0 d.2 d.3 d.6 in
        let h = chained_keeps (KeyTurn min_by_ordering min_by_ordering g cmp) (Best d.0) (keeps d.0) d.1 ((d.3, d.2), d.0) (d.4, y) (c.1, c.0, refl) d.7 in
        sym h.2 ∙ ap (best_of before) (sym (map_same (d.0 ∷ d.1)) ∙ items_from_drains (d.0 ∷ d.1) (d.5.1.0, d.5.1.1, λ _. (d.5.0, d.5.1.2)) road)
