-- The numbers of the levels.
use Rattle.std.specs.Prelude.{ℕ, Option, Some, None}
use Rattle.policy.specs.declared.admission.Level.{Level}
use Rattle.policy.specs.declared.admission.Level.TheVariants.{First, Second}

-- the level's number, and 0 for none
abbrev pub level_number : Option Level → ℕ
level_number None = 0
level_number (Some First) = 1
level_number (Some Second) = 2
