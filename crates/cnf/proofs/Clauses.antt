-- How the first unsatisfied clause of what is left of a table steps.
use Rattle.std.proofs.Common.{◌≡◌, ℕ, zero, suc, ◌+◌, ◌-◌, ◌<◌, ◌≤◌, Bool, true, false, cond, not, ◌||◌, List, [], ◌∷◌, length, get_or, take, drop, ℤ, pos, negsuc, nat_abs, Some, None, Option, sym, refl, ap, ◌∙◌, subst, arith, add-one, length-drop}
use lib.Signed.{lt_z}
use Rattle.std.proofs.lemmas.List.{at_drop_more, at_drop_all}
use Rattle.std.proofs.lemmas.Bool.{cond-true, cond-false, lt-ltb, false≢true}
use Rattle.std.specs.List.{position_from}
use Rattle.cnf.specs.Tables.{Assignment, Parted, holds, satisfied, is_zero, onto, clauses_of, first_unsatisfied}

none≢some : (k : ℕ) → ◌≡◌ {A = Option ℕ} None (Some k) → ⊥
none≢some k e = let z : ◌≡◌ {A = ℕ} 0 1 = cc in omega arith

pub holds-zero : (a : Assignment) (w : ℤ) → nat_abs w ≡ 0 → false ≡ holds a w
holds-zero a (pos zero) h = refl
holds-zero a (pos (suc n)) h = absurd (omega arith)
holds-zero a (negsuc n) h = absurd (omega arith)

pub holds_plain : (a : Assignment) (w : ℤ) → lt_z (pos 0) w ≡ true → a (nat_abs w - 1) ≡ holds a w
holds_plain a (pos zero) t = absurd (false≢true t)
holds_plain a (pos (suc n)) t = ap a (omega arith)
holds_plain a (negsuc n) t = absurd (false≢true t)

pub holds_negated : (a : Assignment) (w : ℤ) → (nat_abs w ≡ 0 → ⊥) → lt_z (pos 0) w ≡ false → not (a (nat_abs w - 1)) ≡ holds a w
holds_negated a (pos zero) ne t = absurd (ne refl)
holds_negated a (pos (suc n)) ne t = absurd (false≢true (sym t ∙ lt-ltb 0 (suc n) (omega arith)))
holds_negated a (negsuc n) ne t = ap (λ x. not (a x)) (omega arith)

-- the first 0 ends the first clause
pub part_at : (ws : List ℤ) (k j : ℕ) → position_from is_zero k ws ≡ Some j → (i : ℕ) × (j ≡ k + i) × (i < length ws) × (clauses_of ws ≡ take i ws ∷ clauses_of (drop (suc i) ws))
part_at [] k j e = absurd (none≢some j e)
part_at (w ∷ ws) k j e = by (is_zero w) (part_at ws (k + 1) j) refl e
  where
    by : (b : Bool) → (position_from is_zero (k + 1) ws ≡ Some j → (i : ℕ) × (j ≡ (k + 1) + i) × (i < length ws) × (clauses_of ws ≡ take i ws ∷ clauses_of (drop (suc i) ws))) → is_zero w ≡ b → cond b (Some k) (position_from is_zero (k + 1) ws) ≡ Some j → (i : ℕ) × (j ≡ k + i) × (i < suc (length ws)) × (cond (is_zero w) ([] ∷ clauses_of ws) (onto w (clauses_of ws)) ≡ take i (w ∷ ws) ∷ clauses_of (drop (suc i) (w ∷ ws)))
    by true more z e = let q : k ≡ j = cc in (0, omega arith, omega arith, cond-true _ _ _ z)
    by false more z e =
        let p = more e in
        (suc p.0, omega (arith, p.1), omega (arith, p.2), cond-false _ _ _ z ∙ ap (onto w) p.3)

-- with no 0 there is no clause
pub part_none : (ws : List ℤ) (k : ℕ) → position_from is_zero k ws ≡ None → clauses_of ws ≡ []
part_none [] k e = refl
part_none (w ∷ ws) k e = by (is_zero w) (part_none ws (k + 1)) refl e
  where
    by : (b : Bool) → (position_from is_zero (k + 1) ws ≡ None → clauses_of ws ≡ []) → is_zero w ≡ b → cond b (Some k) (position_from is_zero (k + 1) ws) ≡ None → cond (is_zero w) ([] ∷ clauses_of ws) (onto w (clauses_of ws)) ≡ []
    by true more z e = absurd (none≢some k (sym e))
    by false more z e = cond-false _ _ _ z ∙ ap (onto w) (more e)

pub parted : (ws : List ℤ) (i : ℕ) → position_from is_zero 0 ws ≡ Some i → Parted ws (take i ws) (drop (i + 1) ws)
parted ws i e =
    let p = part_at ws 0 i e in
    let q : p.0 ≡ i = omega (arith, p.1) in
    let l : i < length ws = omega (arith, p.1, p.2) in
    record {
      clauses = rw (add-one) (subst (λ n. clauses_of ws ≡ take n ws ∷ clauses_of (drop (suc n) ws)) q p.3);
      shorter = omega (arith, length-drop (i + 1) ws);
    }

-- what the literals of a clause say, from the place i on
module _ (a : Assignment) (c : List ℤ) (i : ℕ) where
  pub holds_none : i < length c → false ≡ holds a (get_or c i (pos 0)) → satisfied a (drop (i + 1) c) ≡ satisfied a (drop i c)
  holds_none h f = sym (at_drop_more (satisfied a) c i (pos 0) h ∙ ap (λ b. b || satisfied a (drop (i + 1) c)) (sym f))

  pub holds_here : i < length c → true ≡ holds a (get_or c i (pos 0)) → satisfied a (drop i c) ≡ true
  holds_here h t = at_drop_more (satisfied a) c i (pos 0) h ∙ ap (λ b. b || satisfied a (drop (i + 1) c)) (sym t)

  pub holds_past : length c ≤ i → satisfied a (drop i c) ≡ false
  holds_past h = at_drop_all (satisfied a) c i h

-- the first clause of the words decides, or those behind it do
module _ (a : Assignment) (n : ℕ) (ws c ds : List ℤ) (p : Parted ws c ds) where
  pub first_fails : satisfied a c ≡ false → Some n ≡ first_unsatisfied a n (clauses_of ws)
  first_fails f = sym (ap (first_unsatisfied a n) p.clauses ∙ cond-false _ _ _ f)

  pub first_passes : satisfied a c ≡ true → first_unsatisfied a (n + 1) (clauses_of ds) ≡ first_unsatisfied a n (clauses_of ws)
  first_passes t = sym (ap (first_unsatisfied a n) p.clauses ∙ cond-true _ _ _ t)
