use Rattle.std.proofs.Common.{◌≡◌}
use Rattle.table.specs.Sound.{Counted}
use Rattle.table.proofs.table.Table.reset_clauses.Given as goal

abbrev pub invariant-loop-i : goal.invariant-loop-i
invariant-loop-i l = Counted l.f l.i l.self × (l.self.rows ≡ l.initial.self.rows)
