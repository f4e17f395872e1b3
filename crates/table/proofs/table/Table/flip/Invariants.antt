use Rattle.std.proofs.Common.{drop}
use Rattle.formula.specs.Occurrences.{occurring_in}
use Rattle.table.proofs.Skips.{Left}
use Rattle.table.proofs.table.Table.flip.Given as goal

abbrev pub invariant-loop-i : goal.invariant-loop-i
invariant-loop-i l = Left l.f l.x (drop l.i-index (occurring_in l.o l.x)) l.initial.self l.self
