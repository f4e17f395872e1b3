-- What a policy says of a variable, and what every policy keeps to.
use Rattle.std.specs.Prelude.{ℕ, ◌<◌, ◌≤◌, Bool, true, ℤ, pos, ◌<ℤ◌}

-- A level, from a variable's score and mark, the total weight and the number of clauses. Level 0: not admitted.
abbrev pub Levels : Type 0
Levels = ℤ → Bool → ℕ → ℕ → ℕ

-- The greatest level.
abbrev pub greatest : ℕ
greatest = 2

-- The laws of a policy that gives the levels f.
pub record LawfulLevels (f : Levels) : Type 0 where
  -- no level is above the greatest
  pub at_most : (z : ℤ) (b : Bool) (s c : ℕ) → f z b s c ≤ greatest
  -- an admitted variable scores above 0
  pub above_zero : (z : ℤ) (b : Bool) (s c : ℕ) → 0 < f z b s c → pos 0 <ℤ z
  -- a changed variable that scores above 0 is admitted
  pub admitted : (z : ℤ) (s c : ℕ) → pos 0 <ℤ z → 0 < f z true s c
