-- What a generator that started at a seed holds.
use Rattle.std.proofs.Common.{◌≡◌, ℕ, zero, suc, ◌+◌, ◌-◌, ◌*◌, ◌/◌, ◌%◌, ◌^◌, ◌≤◌, sym, refl, ap, ◌∙◌, mul_assoc, pow-suc, div-add-mod', mul-add, arith}
use native.Mathlib.Nat.{add-mul-mod_self_right}
use Rattle.policy.specs.Sources.{after_draws}
use Rattle.policy.specs.Generators.{generator, next, holding, Run}

-- 16807 × 1407677000 is 1 + 11017 × 2147483647, so what 16807 turns into a multiple of 2147483647 is one itself
multiple : (n m : ℕ) → 16807 * n ≡ 2147483647 * m → 2147483647 * (1407677000 * m - 11017 * n) ≡ n
multiple n m e = omega arith

no_multiple : (n d : ℕ) → 2147483647 * d ≡ n → 1 ≤ n → n ≤ 2147483646 → ⊥
no_multiple n d e low high = omega arith

next_low : (n : ℕ) → 1 ≤ n → n ≤ 2147483646 → 1 ≤ next n
next_low n low high = by (next n) refl
  where
    by : (r : ℕ) → next n ≡ r → 1 ≤ r
    by zero e = let m = 16807 * n / 2147483647 in absurd (no_multiple n (1407677000 * m - 11017 * n) (multiple n m (omega arith)) low high)
    by (suc r) e = omega arith

next_high : (n : ℕ) → next n ≤ 2147483646
next_high n = omega arith

stays_low : (k n : ℕ) → 1 ≤ n → n ≤ 2147483646 → 1 ≤ (after_draws generator k (holding n)).state
stays_low zero n low high = low
stays_low (suc k) n low high = stays_low k (next n) (next_low n low high) (next_high n)

stays_high : (k n : ℕ) → n ≤ 2147483646 → (after_draws generator k (holding n)).state ≤ 2147483646
stays_high zero n high = high
stays_high (suc k) n high = stays_high k (next n) (next_high n)

-- a remainder may be taken before a product
mul_mod : (a b m : ℕ) → a * (b % m) % m ≡ a * b % m
mul_mod a b m =
    let parts = ap (λ x. a * x) (div-add-mod' b m) in
    let over = mul-add a (b / m * m) (b % m) in
    let joined = mul_assoc a (b / m) m in
    let whole : a * b ≡ a * (b % m) + a * (b / m) * m = omega (arith, parts, over, joined) in
    sym (add-mul-mod_self_right (a * (b % m)) (a * (b / m)) m) ∙ ap (λ x. x % m) (sym whole)

power : (k n : ℕ) → n ≤ 2147483646 → (after_draws generator k (holding n)).state ≡ 16807 ^ k * n % 2147483647
power zero n high = omega arith
power (suc k) n high =
    power k (next n) (next_high n)
    ∙ mul_mod (16807 ^ k) (16807 * n) 2147483647
    ∙ ap (λ x. x % 2147483647) (sym (mul_assoc (16807 ^ k) 16807 n) ∙ ap (λ x. x * n) (sym (pow-suc 16807 k)))

pub run : (n : ℕ) → 1 ≤ n → n ≤ 2147483646 → Run n (holding n)
run n low high = record { power = λ k. power k n high; low = λ k. stays_low k n low high; high = λ k. stays_high k n high }
