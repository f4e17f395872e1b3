use Rattle.std.proofs.Common.{◌+ℤ◌, unwrap_or}
use Rattle.formula.specs.Clauses.{flip_at}
use Rattle.table.specs.Rows.{turn, value_at, score_at}
use Rattle.table.proofs.Inside.{Partly, done}
use Rattle.table.proofs.table.Table.revise_entries.Given as goal

abbrev pub invariant-loop-e : goal.invariant-loop-e
invariant-loop-e l = Partly l.mark (done l.es (unwrap_or l.flipped 256) l.e-index) (λ y. score_at l.initial.self y +ℤ turn l.change.before.weight l.change.after.weight (value_at l.initial.self) (flip_at (unwrap_or l.flipped 256) (value_at l.initial.self)) l.es y) l.initial.self l.self
