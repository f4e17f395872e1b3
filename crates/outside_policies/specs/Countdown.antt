-- A source that counts down to 1.
use Rattle.std.specs.Prelude.{ℕ, ◌-◌, ltb}
use Rattle.std.proofs.Common.{ap, arith, ltb-false}
use Rattle.policy.specs.Sources.{Meaning, LawfulSource}
use Rattle.outside_policies.specs.declared.countdown.Countdown.{Countdown}

-- The countdown that gives n first.
abbrev pub from : ℕ → Countdown
from n = record { left = n }

-- What is left, while it is above 0, and then one less.
abbrev pub countdown : Meaning Countdown
countdown = record { ready = λ s. ltb 0 s.left; number = λ s. s.left; after = λ s. from (s.left - 1) }

pub countdown_lawful : LawfulSource countdown
countdown_lawful = record {
  number_dry = λ s e. omega (arith, ltb-false);
  after_dry = λ s e. ap from (omega (arith, ltb-false));
}
