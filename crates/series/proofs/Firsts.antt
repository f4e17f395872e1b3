-- What is picked goes before all other candidates.
use Rattle.std.proofs.Common.{◌≡◌, ℕ, zero, suc, ◌<◌, Bool, true, false, cond, not, eqb, ltb, ℤ, ◌≤ℤ◌, ◌<ℤ◌, Some, None, Option, sym, refl, ap, ◌∙◌, subst, inl, inr, ⊎_elim, arith}
use lib.Signed.{lt_z}
use Rattle.std.proofs.lemmas.Int.{ints}
use Rattle.std.proofs.lemmas.Bool.{cases_Bool, cases_eq, or_cases, or_parts, and_parts, and_cases, ltb-true, ltb-false, eqb-true, eqb-false, not-true, not-false, lt-ltb, both_ways}
use Rattle.formula.specs.Clauses.{names}
use Rattle.formula.specs.Occurrences.{passing}
use Rattle.policy.specs.Levels.{Levels}
use Rattle.state.specs.Model.{Model, clause_of, score, stamp_of}
use Rattle.engine.specs.Picks.{level_of, admits, outranks, goes_before, challenged, best_of, pick, dive_pick}
use Rattle.series.specs.Laws.{RanksBefore, GoesBefore, Picked, NoneAdmitted, PicksTheFirst, Topmost, DivesToTheTop}
use Rattle.engine.proofs.Folds.{passed_by}

-- x passes, and is before every other that passes, among the first n
pub record First (R : ℕ → ℕ → Type 0) (p : ℕ → Bool) (n x : ℕ) : Type 0 where
  pub below : x < n
  pub passes : p x ≡ true
  pub first : (y : ℕ) → y < n → p y ≡ true → (y ≡ x → ⊥) → R x y

abbrev pub Best : (ℕ → ℕ → Type 0) → (ℕ → Bool) → ℕ → Option ℕ → Type 0
Best R p n None = (y : ℕ) → y < n → p y ≡ false
Best R p n (Some x) = First R p n x

module _ (before : ℕ → ℕ → Bool) (R : ℕ → ℕ → Type 0) (yes' : (x y : ℕ) → y < x → before x y ≡ true → R x y) (no' : (x y : ℕ) → y < x → before x y ≡ false → R y x) (trans : (x y z : ℕ) → R x y → R y z → R x z) where
  duel : (p : ℕ → Bool) (n x : ℕ) (t : Bool) → before n x ≡ t → p n ≡ true → First R p n x → First R p (suc n) (cond t n x)
  duel p n x true e h f = record {
    below = omega arith;
    passes = h;
    first = λ y l q ne. (let l' : y < n = omega arith in let r = yes' n x f.below e in ⊎_elim (λ s. subst (R n) (sym s) r) (λ s. trans n x y r (f.first y l' q s)) (cases_eq y x));
  }
  duel p n x false e h f = record {
    below = omega (arith, f.below);
    passes = f.passes;
    first = λ y l q ne. ⊎_elim (λ s. subst (R x) (sym s) (no' n x f.below e)) (λ s. f.first y (omega arith) q ne) (cases_eq y n);
  }

  best_more : (p : ℕ → Bool) (n : ℕ) (b : Bool) → p n ≡ b → (o : Option ℕ) → Best R p n o → Best R p (suc n) (cond b (challenged before o n) o)
  best_more p n true e None h = record {
    below = omega arith;
    passes = e;
    first = λ y l q ne. absurd (both_ways (p y) (h y (omega arith)) q);
  }
  best_more p n true e (Some x) h = duel p n x (before n x) refl e h
  best_more p n false e None h = λ y l. ⊎_elim (λ s. ap p s ∙ e) (λ s. h y (omega arith)) (cases_eq y n)
  best_more p n false e (Some x) h = record {
    below = omega (arith, h.below);
    passes = h.passes;
    first = λ y l q ne. ⊎_elim (λ s. absurd (both_ways (p y) (ap p s ∙ e) q)) (λ s. h.first y (omega arith) q ne) (cases_eq y n);
  }

  pub best_is : (p : ℕ → Bool) (n : ℕ) → Best R p n (best_of before (passing p n))
  best_is p zero = λ y l. absurd (omega arith)
  best_is p (suc n) = subst (Best R p (suc n)) (sym (passed_by before (passing p n) n (p n))) (best_more p n (p n) refl (best_of before (passing p n)) (best_is p n))

-- orders of signed numbers
lt_from : (a b : ℤ) → lt_z a b ≡ true → a <ℤ b
lt_from a b e = grind (arith, ints)

le_from : (a b : ℤ) → lt_z a b ≡ false → b ≤ℤ a
le_from a b e = grind (arith, ints)

same_from : (a b : ℤ) → lt_z a b ≡ false → lt_z b a ≡ false → a ≡ b
same_from a b e f = omega (arith, ints, le_from a b e, le_from b a f)

module _ (m : Model) where
  ranks_yes : (x y : ℕ) → outranks m x y ≡ true → RanksBefore m x y
  ranks_yes x y e =
      ⊎_elim
      (λ h. inl (lt_from (score m y) (score m x) h))
      (λ h.
      let p = and_parts (not (lt_z (score m x) (score m y))) (ltb (stamp_of m x) (stamp_of m y)) h in
      ⊎_elim
      (λ g. inl (lt_from (score m y) (score m x) g))
      (λ g. inr (same_from (score m x) (score m y) (not-true (lt_z (score m x) (score m y)) p.0) g, inl (ltb-true (stamp_of m x) (stamp_of m y) p.1)))
      (cases_Bool (lt_z (score m y) (score m x))))
      (or_cases (lt_z (score m y) (score m x)) _ e)

  ranks_no : (x y : ℕ) → y < x → outranks m x y ≡ false → RanksBefore m y x
  ranks_no x y l e =
      let p = or_parts (lt_z (score m y) (score m x)) _ e in
      ⊎_elim
      (λ h. inl (lt_from (score m x) (score m y) (not-false (lt_z (score m x) (score m y)) h)))
      (λ h.
      let t = ltb-false (stamp_of m x) (stamp_of m y) h in
      ⊎_elim
      (λ g. inl (lt_from (score m x) (score m y) g))
      (λ g. inr (same_from (score m y) (score m x) p.0 g, ⊎_elim (λ s. inr (s, l)) (λ s. inl (omega arith)) (cases_eq (stamp_of m y) (stamp_of m x))))
      (cases_Bool (lt_z (score m x) (score m y))))
      (and_cases (not (lt_z (score m x) (score m y))) (ltb (stamp_of m x) (stamp_of m y)) p.1)

  ranks_trans : (x y z : ℕ) → RanksBefore m x y → RanksBefore m y z → RanksBefore m x z
  ranks_trans x y z p q =
      ⊎_elim
      (λ a. ⊎_elim (λ b. inl (omega (arith, ints, a, b))) (λ b. inl (subst (λ k. k <ℤ score m x) b.0 a)) q)
      (λ a.
      ⊎_elim
      (λ b. inl (subst (λ k. score m z <ℤ k) (sym a.0) b))
      (λ b. inr (a.0 ∙ b.0, ⊎_elim (λ s. ⊎_elim (λ t. inl (omega arith)) (λ t. inl (omega (arith, t.0))) b.1) (λ s. ⊎_elim (λ t. inl (omega (arith, s.0))) (λ t. inr (s.0 ∙ t.0, omega (arith, s.1, t.1))) b.1) a.1))
      q)
      p

  ranks_apart : (x y : ℕ) → RanksBefore m x y → RanksBefore m y x → ⊥
  ranks_apart x y p q =
      ⊎_elim
      (λ a. ⊎_elim (λ b. omega (arith, ints, a, b)) (λ b. omega (arith, ints, subst (λ k. k <ℤ score m x) b.0 a)) q)
      (λ a.
      ⊎_elim
      (λ b. omega (arith, ints, subst (λ k. k <ℤ score m y) a.0 b))
      (λ b. ⊎_elim (λ s. ⊎_elim (λ t. omega arith) (λ t. omega (arith, t.0)) b.1) (λ s. ⊎_elim (λ t. omega (arith, s.0)) (λ t. omega (arith, s.1, t.1)) b.1) a.1)
      q)
      p

  the_top : (i : ℕ) → Best (RanksBefore m) (names (clause_of m i)) m.variables (dive_pick m i)
  the_top i = best_is (outranks m) (RanksBefore m) (λ x y l h. ranks_yes x y h) ranks_no ranks_trans (names (clause_of m i)) m.variables

  top_none : (i : ℕ) → dive_pick m i ≡ None → (x : ℕ) → x < m.variables → names (clause_of m i) x ≡ false
  top_none i e = subst (Best (RanksBefore m) (names (clause_of m i)) m.variables) e (the_top i)

  top_some : (i x : ℕ) → dive_pick m i ≡ Some x → Topmost m i x
  top_some i x e = let b = subst (Best (RanksBefore m) (names (clause_of m i)) m.variables) e (the_top i) in record { below = b.below; named = b.passes; first = b.first }

  top_by : (i : ℕ) (o : Option ℕ) (x : ℕ) → dive_pick m i ≡ o → Topmost m i x → o ≡ Some x
  top_by i None x e p = absurd (both_ways (names (clause_of m i) x) (top_none i e x p.below) p.named)
  top_by i (Some y) x e p =
      let q = top_some i y e in
      ⊎_elim (λ s. ap Some s) (λ s. absurd (ranks_apart x y (p.first y q.below q.named s) (q.first x p.below p.named (λ t. s (sym t))))) (cases_eq y x)

  pub dives_to_the_top : (i : ℕ) → DivesToTheTop m i
  dives_to_the_top i = record { none_only = top_none i; some_only = top_some i; some_every = λ x p. top_by i (dive_pick m i) x refl p }

  module _ (f : Levels) where
    goes_yes : (x y : ℕ) → y < x → goes_before f m x y ≡ true → GoesBefore f m x y
    goes_yes x y l e =
        ⊎_elim
        (λ h. inl (ltb-true (level_of f m x) (level_of f m y) h))
        (λ h. let p = and_parts (eqb (level_of f m x) (level_of f m y)) (outranks m x y) h in inr (eqb-true (level_of f m x) (level_of f m y) p.0, ranks_yes x y p.1))
        (or_cases (ltb (level_of f m x) (level_of f m y)) _ e)

    goes_no : (x y : ℕ) → y < x → goes_before f m x y ≡ false → GoesBefore f m y x
    goes_no x y l e =
        let p = or_parts (ltb (level_of f m x) (level_of f m y)) _ e in
        let g = ltb-false (level_of f m x) (level_of f m y) p.0 in
        ⊎_elim
        (λ h. let ne = eqb-false (level_of f m x) (level_of f m y) h in inl (⊎_elim (λ s. absurd (ne (sym s))) (λ s. omega arith) (cases_eq (level_of f m y) (level_of f m x))))
        (λ h. ⊎_elim (λ s. inr (s, ranks_no x y l h)) (λ s. inl (omega arith)) (cases_eq (level_of f m y) (level_of f m x)))
        (and_cases (eqb (level_of f m x) (level_of f m y)) (outranks m x y) p.1)

    goes_trans : (x y z : ℕ) → GoesBefore f m x y → GoesBefore f m y z → GoesBefore f m x z
    goes_trans x y z p q =
        ⊎_elim
        (λ a. ⊎_elim (λ b. inl (omega arith)) (λ b. inl (omega (arith, b.0))) q)
        (λ a. ⊎_elim (λ b. inl (omega (arith, a.0))) (λ b. inr (a.0 ∙ b.0, ranks_trans x y z a.1 b.1)) q)
        p

    goes_apart : (x y : ℕ) → GoesBefore f m x y → GoesBefore f m y x → ⊥
    goes_apart x y p q =
        ⊎_elim
        (λ a. ⊎_elim (λ b. omega arith) (λ b. omega (arith, b.0)) q)
        (λ a. ⊎_elim (λ b. omega (arith, a.0)) (λ b. ranks_apart x y a.1 b.1) q)
        p

    the_best : Best (GoesBefore f m) (admits f m) m.variables (pick f m)
    the_best = best_is (goes_before f m) (GoesBefore f m) goes_yes goes_no goes_trans (admits f m) m.variables

    none_only : pick f m ≡ None → NoneAdmitted f m
    none_only e x l = let h = ltb-false 0 (level_of f m x) (subst (Best (GoesBefore f m) (admits f m) m.variables) e the_best x l) in omega arith

    some_only : (x : ℕ) → pick f m ≡ Some x → Picked f m x
    some_only x e =
        let b = subst (Best (GoesBefore f m) (admits f m) m.variables) e the_best in
        record { below = b.below; admitted = ltb-true 0 (level_of f m x) b.passes; first = λ y l q ne. b.first y l (lt-ltb 0 (level_of f m y) q) ne }

    none_by : (o : Option ℕ) → pick f m ≡ o → NoneAdmitted f m → o ≡ None
    none_by None e h = refl
    none_by (Some x) e h = let p = some_only x e in absurd (omega (arith, p.admitted, h x p.below))

    some_by : (o : Option ℕ) (x : ℕ) → pick f m ≡ o → Picked f m x → o ≡ Some x
    some_by None x e p = absurd (omega (arith, p.admitted, none_only e x p.below))
    some_by (Some y) x e p =
        let q = some_only y e in
        ⊎_elim (λ s. ap Some s) (λ s. absurd (goes_apart x y (p.first y q.below q.admitted s) (q.first x p.below p.admitted (λ t. s (sym t))))) (cases_eq y x)

    pub picks_the_first : PicksTheFirst f m
    picks_the_first = record { none_only = none_only; none_every = λ h. none_by (pick f m) refl h; some_only = some_only; some_every = λ x p. some_by (pick f m) x refl p }
