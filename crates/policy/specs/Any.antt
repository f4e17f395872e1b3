-- One of several policies, and one of several sources.
use Rattle.std.specs.Prelude.{◌≡◌, ℕ, Bool, false}
use Rattle.std.proofs.Common.{ap}
use Rattle.policy.specs.declared.any.AnyPolicy.{AnyPolicy}
use Rattle.policy.specs.declared.any.AnyPolicy.TheVariants.{Cca, Descent}
use Rattle.policy.specs.declared.any.AnySource.{AnySource}
use Rattle.policy.specs.declared.any.AnySource.TheVariants.{Generator, Recorded}
use Rattle.policy.specs.Levels.{Levels, LawfulLevels}
use Rattle.policy.specs.Policies.{cca, descent}
use Rattle.policy.specs.PolicyLaws.{cca_lawful, descent_lawful}
use Rattle.policy.specs.Sources.{Meaning, LawfulSource}
use Rattle.policy.specs.Generators.{generator, generator_lawful}
use Rattle.policy.specs.Recordings.{recorded, recorded_lawful}

-- The levels of the policy that it is.
abbrev pub any_level : AnyPolicy → Levels
any_level (Cca p) = cca
any_level (Descent p) = descent

pub any_lawful : (p : AnyPolicy) → LawfulLevels (any_level p)
any_lawful (Cca p) = cca_lawful
any_lawful (Descent p) = descent_lawful

abbrev any_ready : AnySource → Bool
any_ready (Generator s) = generator.ready s
any_ready (Recorded s) = recorded.ready s

abbrev any_number : AnySource → ℕ
any_number (Generator s) = generator.number s
any_number (Recorded s) = recorded.number s

abbrev any_after : AnySource → AnySource
any_after (Generator s) = Generator (generator.after s)
any_after (Recorded s) = Recorded (recorded.after s)

-- The meaning of the source that it is.
abbrev pub any_source : Meaning AnySource
any_source = record { ready = any_ready; number = any_number; after = any_after }

number_dry : (s : AnySource) → any_ready s ≡ false → any_number s ≡ 0
number_dry (Generator s) e = generator_lawful.number_dry s e
number_dry (Recorded s) e = recorded_lawful.number_dry s e

after_dry : (s : AnySource) → any_ready s ≡ false → any_after s ≡ s
after_dry (Generator s) e = ap Generator (generator_lawful.after_dry s e)
after_dry (Recorded s) e = ap Recorded (recorded_lawful.after_dry s e)

pub any_source_lawful : LawfulSource any_source
any_source_lawful = record { number_dry = number_dry; after_dry = after_dry }
