use Rattle.std.proofs.Common.{◌≡◌, ℕ, ◌<◌, get_or}
use Rattle.table.specs.Rows.{row_at, row_from}
use Rattle.table.proofs.table.Table.reset_rows.Given as goal

abbrev pub invariant-loop-v : goal.invariant-loop-v
invariant-loop-v l = (l.self.clauses ≡ l.initial.self.clauses) × ((k : ℕ) → k < l.v → row_at l.self k ≡ row_from (get_or l.start k 0))
