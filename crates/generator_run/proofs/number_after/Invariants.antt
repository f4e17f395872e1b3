use Rattle.std.proofs.Common.{◌≡◌, ◌-◌}
use Rattle.policy.specs.Sources.{after_draws}
use Rattle.generator_run.proofs.number_after.Given as goal

-- what is left to draw leads to where all draws lead
abbrev pub invariant-loop-i : goal.invariant-loop-i
invariant-loop-i g l = let u = g.S.Source.meaning in after_draws u (l.others - l._i) l.source ≡ after_draws u l.others l.initial.source
