-- How the parts of a number step.
use Rattle.std.specs.List.{list_all}
use Rattle.std.proofs.Common.{refl, ◌≡◌, ℕ, ◌+◌, ◌-◌, ◌*◌, ◌<◌, ◌≤◌, min, ◌&&◌, List, [], ◌∷◌, length, get_or, drop, sym, ap, ◌∙◌, ⊎_elim, arith}
use Rattle.std.proofs.lemmas.List.{at_drop_more}
use Rattle.std.proofs.lemmas.Bool.{cases_lt}
use Rattle.words.specs.Numbers.{within, digits, decimal_after}

decimal_ge : (n : ℕ) (bs : List ℕ) → n ≤ decimal_after n bs
decimal_ge n [] = omega arith
decimal_ge n (b ∷ bs) = let h = decimal_ge (n * 10 + (b - 48)) bs in omega arith

-- the cap may be put on early
cap : (n : ℕ) (bs : List ℕ) → min (decimal_after (min n 100000) bs) 100000 ≡ min (decimal_after n bs) 100000
cap n bs =
    ⊎_elim
    (λ l. ap (λ k. min (decimal_after k bs) 100000) (omega arith))
    (λ g. let a = decimal_ge (min n 100000) bs in let b = decimal_ge n bs in omega arith)
    (cases_lt n 100000)

module _ (bs : List ℕ) (i : ℕ) (h : i < length bs) where
  pub decimal_more : (n : ℕ) → min (decimal_after (min (n * 10 + (get_or bs i 0 - 48)) 100000) (drop (i + 1) bs)) 100000 ≡ min (decimal_after n (drop i bs)) 100000
  decimal_more n = cap (n * 10 + (get_or bs i 0 - 48)) (drop (i + 1) bs) ∙ sym (ap (λ k. min k 100000) (at_drop_more (decimal_after n) bs i 0 h))

pub digits_all : (bs : List ℕ) → digits bs ≡ list_all (within 48 57) bs
digits_all [] = refl
digits_all (b ∷ bs) = ap (λ t. within 48 57 b && t) (digits_all bs)
