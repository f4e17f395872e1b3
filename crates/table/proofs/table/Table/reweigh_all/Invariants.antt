use Rattle.std.proofs.Common.{ℕ}
use Rattle.table.specs.Sound.{Makes, Weighing}
use Rattle.table.proofs.table.Table.reweigh_all.Given as goal

abbrev pub invariant-loop-i : goal.invariant-loop-i
invariant-loop-i g l = (V : ℕ → ℕ) → Makes (goal.R-post g l.rule) l.f l.initial.self V → Weighing l.f V l.i l.initial.self l.self
