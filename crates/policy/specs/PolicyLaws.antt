-- The two policies are lawful.
use Rattle.std.specs.Prelude.{◌≡◌, ℕ, zero, suc, ◌<◌, ◌≤◌, Bool, true, false, cond, ◌&&◌, T, ℤ, pos, negsuc, ◌*ℤ◌, ◌<ℤ◌, int_lt, refl}
use Rattle.std.proofs.Common.{arith}
use Rattle.std.proofs.lemmas.Int.{ints}
use Rattle.policy.specs.Levels.{LawfulLevels}
use Rattle.policy.specs.Policies.{cca, descent}

-- where a multiple of z is above a natural number, z is above 0
positive : (z : ℤ) (s c : ℕ) → int_lt (pos s) (z *ℤ pos c) ≡ true → pos 0 <ℤ z
positive (pos zero) s c e = absurd (omega (arith, ints))
positive (pos (suc n)) s c e = omega (arith, ints)
positive (negsuc n) s c e = absurd (omega (arith, ints))

-- where the first test is passed, the level is 1
first : (p : Bool) (n : ℕ) → T p → 0 < cond p 1 n
first true n t = omega arith
first false n t = absurd t

cca_at_most : (p q : Bool) → cond p 1 (cond q 2 0) ≤ 2
cca_at_most true q = omega arith
cca_at_most false true = omega arith
cca_at_most false false = omega arith

cca_above_zero : (z : ℤ) (b : Bool) (s c : ℕ) → 0 < cca z b s c → pos 0 <ℤ z
cca_above_zero z b s c = by b (int_lt (pos 0) z) (int_lt (pos s) (z *ℤ pos c)) refl refl
  where
    by : (b p q : Bool) → int_lt (pos 0) z ≡ p → int_lt (pos s) (z *ℤ pos c) ≡ q → 0 < cond (b && p) 1 (cond q 2 0) → pos 0 <ℤ z
    by b true q e d h = omega (arith, ints)
    by b false true e d h = positive z s c d
    by true false false e d h = absurd (omega arith)
    by false false false e d h = absurd (omega arith)

pub cca_lawful : LawfulLevels cca
cca_lawful = record {
  at_most = λ z b s c. cca_at_most (b && int_lt (pos 0) z) (int_lt (pos s) (z *ℤ pos c));
  above_zero = cca_above_zero;
  admitted = λ z s c h. first (int_lt (pos 0) z) (cond (int_lt (pos s) (z *ℤ pos c)) 2 0) h.lt;
}

descent_at_most : (p : Bool) → cond p 1 0 ≤ 2
descent_at_most true = omega arith
descent_at_most false = omega arith

descent_above_zero : (z : ℤ) → 0 < cond (int_lt (pos 0) z) 1 0 → pos 0 <ℤ z
descent_above_zero z = by (int_lt (pos 0) z) refl
  where
    by : (p : Bool) → int_lt (pos 0) z ≡ p → 0 < cond p 1 0 → pos 0 <ℤ z
    by true e h = omega (arith, ints)
    by false e h = absurd (omega arith)

pub descent_lawful : LawfulLevels descent
descent_lawful = record {
  at_most = λ z b s c. descent_at_most (int_lt (pos 0) z);
  above_zero = λ z b s c. descent_above_zero z;
  admitted = λ z s c h. first (int_lt (pos 0) z) 0 h.lt;
}
