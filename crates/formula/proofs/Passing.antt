-- The numbers that pass a test, counted one by one.
use Rattle.std.proofs.Common.{◌≡◌, ℕ, zero, suc, ◌+◌, ◌-◌, ◌<◌, ◌≤◌, Bool, true, false, cond, List, [], ◌∷◌, ◌++◌, length, get_or, take, filter, map, sym, refl, ap, ◌∙◌, ap₂, ⊎_elim, add-one, arith}
use Rattle.std.specs.List.{enumerate_from}
use Rattle.std.proofs.lemmas.Bool.{cases_eq}
use Rattle.std.proofs.lemmas.List.{get_or_append_left, get_or-append_right, take_more, length-take, map-append}
use Rattle.std.proofs.lemmas.List.Elements.{filter-append}
use Rattle.std.proofs.lemmas.List.Filters.{length-filter_more}
use Rattle.formula.specs.Entries.{bit}
use Rattle.formula.specs.Occurrences.{passing}
use Rattle.formula.proofs.Lists.{length-passing, passing_room}

passing-next : (p : ℕ → Bool) (i : ℕ) → length (passing p (i + 1)) ≡ length (passing p i) + bit (p i)
passing-next p i = ap (λ n. length (passing p n)) (add-one i) ∙ (length-passing p (suc i) ∙ ap (λ n. n + bit (p i)) (sym (length-passing p i)))

pub passing_yes : (p : ℕ → Bool) (i : ℕ) → p i ≡ true → length (passing p (i + 1)) ≡ length (passing p i) + 1
passing_yes p i e = passing-next p i ∙ ap (λ b. length (passing p i) + bit b) e

pub passing_no : (p : ℕ → Bool) (i : ℕ) → p i ≡ false → length (passing p (i + 1)) ≡ length (passing p i)
passing_no p i e = passing-next p i ∙ (ap (λ b. length (passing p i) + bit b) e ∙ omega arith)

pub passing_le : (p : ℕ → Bool) (i : ℕ) → length (passing p i) ≤ i
passing_le p zero = omega arith
passing_le p (suc i) = omega (arith, passing_le p i, length-passing p (suc i), length-passing p i, one (p i))
  where
    one : (b : Bool) → bit b ≤ 1
    one true = omega arith
    one false = omega arith

-- the number i stands behind those below it that pass
pub passing_at : (p : ℕ → Bool) (i n : ℕ) → i < n → p i ≡ true → get_or (passing p n) (length (passing p i)) 0 ≡ i
passing_at p i zero l e = absurd (omega arith)
passing_at p i (suc n) l e =
    ⊎_elim
    (λ (q : i ≡ n).
    let none : length (passing p n) - length (passing p n) ≡ 0 = omega arith in
    ap (λ k. get_or (passing p n ++ cond (p n) (n ∷ []) []) (length (passing p k)) 0) q
    ∙ (get_or-append_right (passing p n) (cond (p n) (n ∷ []) []) (length (passing p n)) (length (passing p n)) 0 refl (omega arith)
    ∙ (ap₂ (λ b k. get_or (cond b (n ∷ []) []) k 0) (ap p (sym q) ∙ e) none ∙ sym q)))
    (λ (q : i ≡ n → ⊥).
    get_or_append_left (passing p n) (cond (p n) (n ∷ []) []) 0 (length (passing p i)) (passing_room p i n (omega arith) e)
    ∙ passing_at p i n (omega arith) e)
    (cases_eq i n)

-- none passes between i and n
pub passing_still : (p : ℕ → Bool) (i n : ℕ) → i ≤ n → ((j : ℕ) → i ≤ j → j < n → p j ≡ false) → length (passing p n) ≡ length (passing p i)
passing_still p i zero l h = let e : 0 ≡ i = omega arith in ap (λ k. length (passing p k)) e
passing_still p i (suc n) l h =
    ⊎_elim
    (λ (q : i ≡ suc n). ap (λ k. length (passing p k)) (sym q))
    (λ (q : i ≡ suc n → ⊥).
    let e : suc n ≡ n + 1 = omega arith in
    ap (λ k. length (passing p k)) e ∙ (passing_no p n (h n (omega arith) (omega arith)) ∙ passing_still p i n (omega arith) (λ j a b. h j a (omega arith))))
    (cases_eq i (suc n))

-- what passes among the first n elements, counted by their places
pub passing-filter : {X : Type 0} (p : X → Bool) (xs : List X) (d : X) (n : ℕ) → n ≤ length xs → length (filter p (take n xs)) ≡ length (passing (λ k. p (get_or xs k d)) n)
passing-filter p xs d zero l = refl
passing-filter p xs d (suc n) l =
    ap (λ m. length (filter p (take m xs))) (sym (add-one n))
    ∙ (length-filter_more p xs n d (omega arith)
    ∙ (ap₂ ◌+◌ (passing-filter p xs d n (omega arith)) (one (p (get_or xs n d)))
    ∙ (sym (passing-next (λ k. p (get_or xs k d)) n) ∙ ap (λ m. length (passing (λ k. p (get_or xs k d)) m)) (add-one n))))
  where
    one : (b : Bool) → cond b 1 0 ≡ bit b
    one true = refl
    one false = refl

-- one element more at the end, with its place
enumerate_more : {X : Type 0} (n : ℕ) (xs : List X) (x : X) → enumerate_from n (xs ++ (x ∷ [])) ≡ enumerate_from n xs ++ ((n + length xs, x) ∷ [])
enumerate_more n [] x = let e : n ≡ n + 0 = omega arith in ap (λ m. (m, x) ∷ []) e
enumerate_more n (y ∷ ys) x =
    let e : n + 1 + length ys ≡ n + suc (length ys) = omega arith in
    ap (λ es. (n, y) ∷ es) (enumerate_more (n + 1) ys x ∙ ap (λ m. enumerate_from (n + 1) ys ++ ((m, x) ∷ [])) e)

-- the places of what passes among the first n elements
pub passing-enumerated : {X : Type 0} (p : X → Bool) (xs : List X) (d : X) (n : ℕ) → n ≤ length xs → map (λ (e : ℕ × X). e.0) (filter (λ (e : ℕ × X). p e.1) (enumerate_from 0 (take n xs))) ≡ passing (λ k. p (get_or xs k d)) n
passing-enumerated p xs d zero l = refl
passing-enumerated {X} p xs d (suc n) l =
    ap (λ m. places (enumerate_from 0 (take m xs))) (sym (add-one n))
    ∙ (ap (λ ys. places (enumerate_from 0 ys)) (take_more xs n d (omega arith))
    ∙ (ap places (enumerate_more 0 (take n xs) (get_or xs n d))
    ∙ (ap (map (λ (e : ℕ × X). e.0)) (filter-append q (enumerate_from 0 (take n xs)) ((0 + length (take n xs), get_or xs n d) ∷ []))
    ∙ (map-append (λ (e : ℕ × X). e.0) (filter q (enumerate_from 0 (take n xs))) (filter q ((0 + length (take n xs), get_or xs n d) ∷ []))
    ∙ ap₂ ◌++◌ (passing-enumerated p xs d n (omega arith)) (one (0 + length (take n xs)) (p (get_or xs n d)) (omega (arith, length-take n xs)))))))
  where
    q : ℕ × X → Bool
    q e = p e.1

    places : List (ℕ × X) → List ℕ
    places es = map (λ (e : ℕ × X). e.0) (filter q es)

    one : (m : ℕ) (b : Bool) → m ≡ n → map (λ (e : ℕ × X). e.0) (cond b ((m, get_or xs n d) ∷ []) []) ≡ cond b (n ∷ []) []
    one m true e = ap (λ k. k ∷ []) e
    one m false e = refl
