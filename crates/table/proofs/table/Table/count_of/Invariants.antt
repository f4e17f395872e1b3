use Rattle.std.proofs.Common.{◌≡◌, take}
use Rattle.formula.specs.Entries.{count}
use Rattle.table.specs.Rows.{value_at}
use Rattle.table.proofs.table.Table.count_of.Given as goal

abbrev pub invariant-loop-e : goal.invariant-loop-e
invariant-loop-e l = l.n ≡ count (value_at l.self) (take l.e-index l.es)
