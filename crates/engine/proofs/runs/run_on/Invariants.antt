use Rattle.std.proofs.Common.{◌+◌, ◌≤◌}
use Rattle.state.specs.Model.{Paced}
use Rattle.state.specs.Searches.{model}
use Rattle.engine.proofs.Going.{Going}
use Rattle.engine.proofs.runs.run_on.Given as goal

abbrev pub invariant-loop-i : goal.invariant-loop-i
invariant-loop-i g l = record {
  ticks : (model l.search).tick + l.initial.budget ≤ 1000000 + l.i;
  pace : Paced (model l.search);
  going : Going (g.P.Policy.level l.policy) g.S.Source.meaning l.budget (model l.initial.search) l.initial.source l.initial.record-items l.i (model l.search) l.source l.record-items l.dives;
}
