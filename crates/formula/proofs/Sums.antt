-- Sums and tests below a number.
use Rattle.std.proofs.Common.{◌≡◌, ℕ, zero, suc, ◌+◌, ◌*◌, ◌<◌, ◌≤◌, Bool, true, false, ◌||◌, sym, refl, ap, ◌∙◌, subst, ap₂, ⊎_elim, suc-mul, mul-zero, arith}
use Rattle.std.proofs.lemmas.Bool.{cases_eq, or_from}
use Rattle.formula.specs.Clauses.{sum_to, any_to}
use Rattle.formula.specs.Entries.{bit}

pub bit_le : (b : Bool) → bit b ≤ 1
bit_le true = omega arith
bit_le false = omega arith

pub or_assoc : (p q r : Bool) → ((p || q) || r) ≡ (p || (q || r))
or_assoc true q r = refl
or_assoc false q r = refl

pub or_none : (b : Bool) → (b || false) ≡ b
or_none true = refl
or_none false = refl

pub at_all : (P : ℕ → Type 0) (v : ℕ) → P v → ((y : ℕ) → (y ≡ v → ⊥) → P y) → (y : ℕ) → P y
at_all P v h k y = ⊎_elim (λ (q : y ≡ v). subst P (sym q) h) (λ (q : y ≡ v → ⊥). k y q) (cases_eq y v)

pub sum_to_same : (n : ℕ) (g h : ℕ → ℕ) → ((k : ℕ) → k < n → g k ≡ h k) → sum_to n g ≡ sum_to n h
sum_to_same zero g h e = refl
sum_to_same (suc n) g h e = ap₂ ◌+◌ (sum_to_same n g h (λ k l. e k (omega arith))) (e n (omega arith))

pub sum_to_le : (n : ℕ) (g h : ℕ → ℕ) → ((k : ℕ) → k < n → g k ≤ h k) → sum_to n g ≤ sum_to n h
sum_to_le zero g h e = omega arith
sum_to_le (suc n) g h e = omega (arith, sum_to_le n g h (λ k l. e k (omega arith)), e n (omega arith))

-- only the term at i differs
pub sum_to_change : (n : ℕ) (g h : ℕ → ℕ) (i : ℕ) → i < n → ((k : ℕ) → k < n → (k ≡ i → ⊥) → h k ≡ g k) → sum_to n h + g i ≡ sum_to n g + h i
sum_to_change zero g h i l e = omega arith
sum_to_change (suc n) g h i l e =
    ⊎_elim
    (λ (q : n ≡ i). let s = sum_to_same n h g (λ k m. e k (omega arith) (λ p. omega arith)) in
    let u : g i ≡ g n = ap g (sym q) in let v : h i ≡ h n = ap h (sym q) in omega arith)
    (λ (q : n ≡ i → ⊥). omega (arith, sum_to_change n g h i (omega arith) (λ k m. e k (omega arith)), e n (omega arith) q))
    (cases_eq n i)

pub sum_to_term : (n : ℕ) (g : ℕ → ℕ) (i : ℕ) → i < n → g i ≤ sum_to n g
sum_to_term zero g i l = omega arith
sum_to_term (suc n) g i l =
    ⊎_elim (λ (q : n ≡ i). let u : g i ≡ g n = ap g (sym q) in omega arith) (λ (q : n ≡ i → ⊥). omega (arith, sum_to_term n g i (omega arith))) (cases_eq n i)

-- at most one variable has a given word
pub sum_to_one : (n : ℕ) (g : ℕ → ℕ) (i : ℕ) → g i ≤ 1 → ((k : ℕ) → (k ≡ i → ⊥) → g k ≡ 0) → sum_to n g ≤ 1
sum_to_one n g i a b = omega (arith, (go n).0)
  where
    go : (n : ℕ) → (sum_to n g ≤ 1) × (n ≤ i → sum_to n g ≡ 0)
    go zero = (omega arith, λ _. refl)
    go (suc n) =
        ⊎_elim
        (λ (q : n ≡ i). let z = (go n).1 (omega arith) in let e : g n ≡ g i = ap g q in (omega arith, λ m. absurd (omega arith)))
        (λ (q : n ≡ i → ⊥). let z = b n q in let h = (go n).0 in (omega arith, λ m. let y = (go n).1 (omega arith) in omega arith))
        (cases_eq n i)

pub sum_to_add : (n : ℕ) (g h : ℕ → ℕ) → sum_to n (λ k. g k + h k) ≡ sum_to n g + sum_to n h
sum_to_add zero g h = refl
sum_to_add (suc n) g h = let e = sum_to_add n g h in omega arith

pub sum_to_const : (n c : ℕ) → sum_to n (λ _. c) ≡ n * c
sum_to_const zero c = omega arith
sum_to_const (suc n) c = let e = sum_to_const n c in omega (arith, suc-mul n c)

pub any_to_same : (n : ℕ) (p q : ℕ → Bool) → ((k : ℕ) → k < n → p k ≡ q k) → any_to n p ≡ any_to n q
any_to_same zero p q e = refl
any_to_same (suc n) p q e = ap₂ ◌||◌ (any_to_same n p q (λ k l. e k (omega arith))) (e n (omega arith))

pub any_to_none : (n : ℕ) (p : ℕ → Bool) → ((k : ℕ) → k < n → p k ≡ false) → any_to n p ≡ false
any_to_none zero p e = refl
any_to_none (suc n) p e = or_from _ _ (any_to_none n p (λ k l. e k (omega arith))) (e n (omega arith))

-- only the test at i differs, and it gains
pub any_to_gain : (n : ℕ) (p q : ℕ → Bool) (i : ℕ) → i < n → ((k : ℕ) → k < n → (k ≡ i → ⊥) → q k ≡ p k) → (p i ≡ true → q i ≡ true) → any_to n q ≡ (any_to n p || q i)
any_to_gain zero p q i l e h = absurd (omega arith)
any_to_gain (suc n) p q i l e h =
    ⊎_elim
    (λ (z : n ≡ i).
    let s = any_to_same n q p (λ k m. e k (omega arith) (λ r. omega arith)) in
    ap₂ ◌||◌ s (ap q z) ∙ (gain (any_to n p) (p i) (q i) h ∙ ap (λ b. any_to n p || b || q i) (ap p (sym z))))
    (λ (z : n ≡ i → ⊥).
    ap₂ ◌||◌ (any_to_gain n p q i (omega arith) (λ k m. e k (omega arith)) h) (e n (omega arith) z) ∙ swap (any_to n p) (p n) (q i))
    (cases_eq n i)
  where
    gain : (a p q : Bool) → (p ≡ true → q ≡ true) → (a || q) ≡ (a || p || q)
    gain true true q h = refl
    gain true false q h = refl
    gain false true q h = h refl
    gain false false q h = refl

    swap : (a b c : Bool) → (a || c || b) ≡ (a || b || c)
    swap true b c = refl
    swap false true true = refl
    swap false true false = refl
    swap false false true = refl
    swap false false false = refl

-- a sum of sums, the other way round
pub sum_to_swap : (m n : ℕ) (g : ℕ → ℕ → ℕ) → sum_to m (λ i. sum_to n (λ j. g i j)) ≡ sum_to n (λ j. sum_to m (λ i. g i j))
sum_to_swap zero n g = sym (sum_to_const n 0 ∙ mul-zero n)
sum_to_swap (suc m) n g = ap (λ s. s + sum_to n (g m)) (sum_to_swap m n g) ∙ sym (sum_to_add n (λ j. sum_to m (λ i. g i j)) (g m))
