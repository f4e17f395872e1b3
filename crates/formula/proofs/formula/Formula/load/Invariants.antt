use Rattle.std.proofs.Common.{length}
use Rattle.formula.proofs.Split.{Loading}
use Rattle.formula.proofs.formula.Formula.load.Given as goal

abbrev pub invariant-loop-clause : goal.invariant-loop-clause
invariant-loop-clause l = Loading l.variables l.words l.rest l.self

abbrev pub decreases-loop-clause : goal.decreases-loop-clause
decreases-loop-clause l = length l.rest
