-- The levels of a policy by a least score.
use Rattle.std.specs.Prelude.{ℕ, ◌<◌, ◌≤◌, Bool, true, false, cond, ◌≡◌, refl, T, ℤ, pos, ◌<ℤ◌}
use Rattle.std.proofs.Common.{arith}
use Rattle.std.proofs.lemmas.Int.{ints}
use Rattle.std.specs.Int.Signed.{lt_z, le_z}
use Rattle.policy.specs.Levels.{Levels, LawfulLevels}
use Rattle.outside_policies.specs.declared.threshold.Threshold.{Threshold}

-- Of a score above 0: 1 for a changed variable, else 2 for a score that is at least the number lent, else 0.
abbrev pub threshold : Threshold → Levels
threshold p z b s c = cond (lt_z (pos 0) z) (cond b 1 (cond (le_z (pos p.least.now) z) 2 0)) 0

at_most : (p b q : Bool) → cond p (cond b 1 (cond q 2 0)) 0 ≤ 2
at_most false b q = omega arith
at_most true true q = omega arith
at_most true false true = omega arith
at_most true false false = omega arith

above_zero : (z : ℤ) (n : ℕ) → 0 < cond (lt_z (pos 0) z) n 0 → pos 0 <ℤ z
above_zero z n = by (lt_z (pos 0) z) refl
  where
    by : (p : Bool) → lt_z (pos 0) z ≡ p → 0 < cond p n 0 → pos 0 <ℤ z
    by true e h = omega (arith, ints)
    by false e h = absurd (omega arith)

admitted : (p : Bool) → T p → 0 < cond p 1 0
admitted true t = omega arith
admitted false t = absurd t

pub threshold_lawful : (p : Threshold) → LawfulLevels (threshold p)
threshold_lawful p = record {
  at_most = λ z b s c. at_most (lt_z (pos 0) z) b (le_z (pos p.least.now) z);
  above_zero = λ z b s c. above_zero z (cond b 1 (cond (le_z (pos p.least.now) z) 2 0));
  admitted = λ z s c h. admitted (lt_z (pos 0) z) h.lt;
}
