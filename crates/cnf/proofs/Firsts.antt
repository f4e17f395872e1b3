-- The first unsatisfied clause is what its name says.
use Rattle.std.proofs.Common.{◌≡◌, ℕ, zero, suc, ◌+◌, ◌<◌, Bool, true, false, cond, List, [], ◌∷◌, length, get_or, ℤ, Some, None, Option, sym, refl, ap, ◌∙◌, arith}
use Rattle.std.proofs.lemmas.Bool.{cond-true, cond-false}
use Rattle.cnf.specs.Tables.{Assignment, satisfied, first_unsatisfied}
use Rattle.cnf.specs.Promises.{FirstBroken, AllSatisfied, NamesFirstBroken}

some≢none : (k : ℕ) → ◌≡◌ {A = Option ℕ} (Some k) None → ⊥
some≢none k e = let z : ◌≡◌ {A = ℕ} 0 1 = cc in omega arith

-- the clause at place j is the first unsatisfied one
record FirstAt (a : Assignment) (cs : List (List ℤ)) (j : ℕ) : Type 0 where
  inside : j < length cs
  broken : satisfied a (get_or cs j []) ≡ false
  before : (i : ℕ) → i < j → satisfied a (get_or cs i []) ≡ true

module _ (a : Assignment) where
  all_onto : (c : List ℤ) (cs : List (List ℤ)) (m : ℕ) → satisfied a c ≡ true → ((j : ℕ) → j < m → satisfied a (get_or cs j []) ≡ true) → (j : ℕ) → j < suc m → satisfied a (get_or (c ∷ cs) j []) ≡ true
  all_onto c cs m s h zero l = s
  all_onto c cs m s h (suc j) l = h j (omega arith)

  none_by : (b : Bool) (n : ℕ) (c : List ℤ) (cs : List (List ℤ)) → satisfied a c ≡ b → (first_unsatisfied a (n + 1) cs ≡ None → AllSatisfied a cs) → cond b (first_unsatisfied a (n + 1) cs) (Some n) ≡ None → AllSatisfied a (c ∷ cs)
  none_by true n c cs s ih e = all_onto c cs (length cs) s (ih e)
  none_by false n c cs s ih e = absurd (some≢none n e)

  none_only : (n : ℕ) (cs : List (List ℤ)) → first_unsatisfied a n cs ≡ None → AllSatisfied a cs
  none_only n [] e = λ j l. absurd (omega arith)
  none_only n (c ∷ cs) e = none_by (satisfied a c) n c cs refl (none_only (n + 1) cs) e

  none_every : (n : ℕ) (cs : List (List ℤ)) → AllSatisfied a cs → first_unsatisfied a n cs ≡ None
  none_every n [] h = refl
  none_every n (c ∷ cs) h = cond-true _ _ _ (h 0 (omega arith)) ∙ none_every (n + 1) cs (λ j l. h (suc j) (omega arith))

  abbrev At : List (List ℤ) → ℕ → ℕ → Type 0
  At cs n k = (j : ℕ) × (k ≡ n + j) × FirstAt a cs j

  some_by : (b : Bool) (n k : ℕ) (c : List ℤ) (cs : List (List ℤ)) → satisfied a c ≡ b → (first_unsatisfied a (n + 1) cs ≡ Some k → At cs (n + 1) k) → cond b (first_unsatisfied a (n + 1) cs) (Some n) ≡ Some k → At (c ∷ cs) n k
  some_by true n k c cs s ih e =
      let p = ih e in
      (suc p.0, omega (arith, p.1), record { inside = omega (arith, p.2.inside); broken = p.2.broken; before = all_onto c cs p.0 s p.2.before })
  some_by false n k c cs s ih e =
      let q : n ≡ k = cc in
      (0, omega arith, record { inside = omega arith; broken = s; before = λ i l. absurd (omega arith) })

  some_only : (n k : ℕ) (cs : List (List ℤ)) → first_unsatisfied a n cs ≡ Some k → At cs n k
  some_only n k [] e = absurd (some≢none k (sym e))
  some_only n k (c ∷ cs) e = some_by (satisfied a c) n k c cs refl (some_only (n + 1) k cs) e

  some_every : (n : ℕ) (cs : List (List ℤ)) (j : ℕ) → FirstAt a cs j → first_unsatisfied a n cs ≡ Some (n + j)
  some_every n [] j f = absurd (omega (arith, f.inside))
  some_every n (c ∷ cs) zero f = cond-false _ _ _ f.broken ∙ ap Some (omega arith)
  some_every n (c ∷ cs) (suc j) f =
      cond-true _ _ _ (f.before 0 (omega arith))
      ∙ some_every (n + 1) cs j (record { inside = omega (arith, f.inside); broken = f.broken; before = λ i l. f.before (suc i) (omega arith) })
      ∙ ap Some (omega arith)

  first_broken : (cs : List (List ℤ)) (k : ℕ) → At cs 1 k → FirstBroken a cs k
  first_broken cs k p = record {
    counted = (omega (arith, p.1), omega (arith, p.1, p.2.inside));
    broken = λ j e. (let q : p.0 ≡ j = omega (arith, p.1) in ap (λ x. satisfied a (get_or cs x [])) (sym q) ∙ p.2.broken);
    before = λ j l. p.2.before j (omega (arith, p.1));
  }

  broken_first : (cs : List (List ℤ)) (k : ℕ) → FirstBroken a cs k → first_unsatisfied a 1 cs ≡ Some k
  broken_first cs zero f = absurd (omega (arith, f.counted.0))
  broken_first cs (suc j) f =
      some_every 1 cs j (record { inside = omega (arith, f.counted.1); broken = f.broken j refl; before = λ i l. f.before i (omega arith) }) ∙ ap Some (omega arith)

  pub names-first_broken : (cs : List (List ℤ)) → NamesFirstBroken a cs
  names-first_broken cs = record { none_only = none_only 1 cs; none_every = none_every 1 cs; some_only = λ k e. first_broken cs k (some_only 1 k cs e); some_every = broken_first cs }
