use Rattle.std.proofs.Common.{length, take}
use Rattle.engine.specs.Engines.{held}
use Rattle.series.specs.Promises.{series}
use Rattle.series.proofs.Rests.{Rest}
use Rattle.series.proofs.replay.replay.Given as goal

abbrev pub invariant-loop-i : goal.invariant-loop-i
invariant-loop-i g l =
    Rest g.P.Policy.level g.S.Source.meaning l.lent.words.now l.lent.starts.now l.lent.policies.now (take (length l.initial.answers) l.calls) (series g.P.Policy.level g.S.Source.meaning l.lent.words.now l.lent.starts.now l.lent.policies.now l.calls l.initial.sources l.initial.trail (length l.initial.answers)) l.initial.answers l.i (held l.engine) l.sources l.trail l.answers
