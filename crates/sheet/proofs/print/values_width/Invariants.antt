use Rattle.std.proofs.Common.{◌≡◌, ◌+◌, ◌*◌, ◌≤◌, length, drop}
use Rattle.sheet.specs.Texts.{values_from}
use Rattle.sheet.proofs.print.values_width.Given as goal

abbrev pub invariant-loop-i : goal.invariant-loop-i
invariant-loop-i l = (l.width ≤ 22 * l.i) × (l.width + length (values_from (l.i + 1) (drop l.i l.assignment)) ≡ length (values_from 1 l.assignment))
