-- The bits of a word.
use Rattle.std.proofs.Common.{◌≡◌, ℕ, zero, suc, ◌+◌, ◌-◌, ◌*◌, ◌/◌, ◌%◌, ◌^◌, ◌<◌, ◌≤◌, true, false, not, eqb, sym, refl, ap, ◌∙◌, arith, shr-shr}
use native.Mathlib.Nat.{zero-div}
use lib.Bits.{bit_xor, xor_shr, xor_mod, xor_zero_r, shifted_half, shifted_even}
use lib.Count.{count_trailing_zeros, under}
use lib.Pow.{shl-shr}
use Rattle.bitset.specs.Bits.{bit_at}

bit_shifted : (n s j : ℕ) → bit_at (n / 2 ^ s) j ≡ bit_at n (s + j)
bit_shifted n s j = ap (λ m. eqb (m % 2) 1) (shr-shr n s j)

-- the bits from s on, by their places in the rest
pub bits_from : (n s j : ℕ) → s ≤ j → bit_at n j ≡ bit_at (n / 2 ^ s) (j - s)
bits_from n s j l = let e : s + (j - s) ≡ j = omega arith in sym (bit_shifted n s (j - s) ∙ ap (bit_at n) e)

half : (n j : ℕ) → bit_at n (suc j) ≡ bit_at (n / 2) j
half n j =
    let e : 1 + j ≡ suc j = omega arith in
    sym (bit_shifted n 1 j ∙ ap (bit_at n) e)

-- the zeros below z, and the bit at z if it is one of the k lowest
pub record Trailing (k n z : ℕ) : Type 0 where
  pub few : z ≤ k
  pub below : (j : ℕ) → j < z → bit_at n j ≡ false
  pub at : z < k → bit_at n z ≡ true

lowest : (n : ℕ) → n / 2 ^ 0 % 2 ≡ n % 2
lowest n = omega arith

trailing_by : (k n z d : ℕ) → n % 2 ≡ d → Trailing k (n / 2) z → Trailing (suc k) n (under d z)
trailing_by k n z zero e rest = record { few = omega (arith, rest.few); below = low; at = λ l. half n z ∙ rest.at (omega arith) }
  where
    low : (j : ℕ) → j < suc z → bit_at n j ≡ false
    low zero l = ap (λ m. eqb m 1) (lowest n ∙ e)
    low (suc j) l = half n j ∙ rest.below j (omega arith)
trailing_by k n z (suc d) e rest =
    let one : n % 2 ≡ 1 = omega arith in
    record { few = omega arith; below = λ j l. absurd (omega arith); at = λ _. ap (λ m. eqb m 1) (lowest n ∙ one) }

pub trailing : (k n : ℕ) → Trailing k n (count_trailing_zeros k n)
unfolding count_trailing_zeros
trailing zero n = record { few = omega arith; below = λ j l. absurd (omega arith); at = λ l. absurd (omega arith) }
trailing (suc k) n = trailing_by k n (count_trailing_zeros k (n / 2)) (n % 2) refl (trailing k (n / 2))

nothing : (j : ℕ) → 0 / 2 ^ j ≡ 0
nothing j = zero-div (2 ^ j)

one_times : (k : ℕ) → 2 ^ k ≡ 1 * 2 ^ k
one_times k = omega arith

-- a power of two has one bit
power_same : (i : ℕ) → 2 ^ i / 2 ^ i % 2 ≡ 1
power_same i = let e : 1 * 2 ^ i ≡ 2 ^ i = omega arith in ap (λ m. m / 2 ^ i % 2) (sym e) ∙ ap (λ m. m % 2) (shl-shr 1 i)

power_other : (i j : ℕ) → (j ≡ i → ⊥) → 2 ^ i / 2 ^ j % 2 ≡ 0
power_other zero zero ne = absurd (ne refl)
power_other (suc i) zero ne = lowest (2 ^ suc i) ∙ (ap (λ m. m % 2) (one_times (suc i)) ∙ shifted_even 1 i)
power_other zero (suc j) ne =
    let e : 1 + j ≡ suc j = omega arith in
    ap (λ k. 1 / 2 ^ k % 2) (sym e) ∙ (ap (λ m. m % 2) (sym (shr-shr 1 1 j)) ∙ ap (λ m. m % 2) (nothing j))
power_other (suc i) (suc j) ne =
    let e : 1 + j ≡ suc j = omega arith in
    ap (λ k. 2 ^ suc i / 2 ^ k % 2) (sym e)
    ∙ (ap (λ m. m % 2) (sym (shr-shr (2 ^ suc i) 1 j))
    ∙ (ap (λ m. m / 2 ^ j % 2) (ap (λ m. m / 2) (one_times (suc i)) ∙ (shifted_half 1 i ∙ sym (one_times i))) ∙ power_other i j (λ q. ne (ap suc q))))

-- a bit turned is turned, and the others are as they were
module _ (n i j : ℕ) where
  turned : bit_xor n (2 ^ i) / 2 ^ j % 2 ≡ bit_xor (n / 2 ^ j % 2) (2 ^ i / 2 ^ j % 2)
  turned = ap (λ m. m % 2) (xor_shr n (2 ^ i) j) ∙ xor_mod (n / 2 ^ j) (2 ^ i / 2 ^ j) 1

one_bit : (b : ℕ) → b < 2 → eqb (bit_xor b 1) 1 ≡ not (eqb b 1)
one_bit zero l = refl
one_bit (suc zero) l = refl
one_bit (suc (suc b)) l = absurd (omega arith)

pub bit_turned : (n i : ℕ) → bit_at (bit_xor n (2 ^ i)) i ≡ not (bit_at n i)
bit_turned n i =
    ap (λ m. eqb m 1) (turned n i i ∙ ap (bit_xor (n / 2 ^ i % 2)) (power_same i)) ∙ one_bit (n / 2 ^ i % 2) (omega arith)

pub bit_kept : (n i j : ℕ) → (j ≡ i → ⊥) → bit_at (bit_xor n (2 ^ i)) j ≡ bit_at n j
bit_kept n i j ne = ap (λ m. eqb m 1) (turned n i j ∙ (ap (bit_xor (n / 2 ^ j % 2)) (power_other i j ne) ∙ xor_zero_r (n / 2 ^ j % 2)))

pub zero_bit : (j : ℕ) → bit_at 0 j ≡ false
zero_bit j = ap (λ m. eqb (m % 2) 1) (nothing j)
