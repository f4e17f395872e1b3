use Rattle.std.proofs.Common.{◌≡◌, ◌≤◌, min, drop}
use Rattle.words.specs.Numbers.{decimal_value, decimal_after}
use Rattle.words.proofs.number.magnitude.Given as goal

abbrev pub invariant-loop-b : goal.invariant-loop-b
invariant-loop-b l = (l.n ≤ 100000) × (min (decimal_after l.n (drop l.b-index l.digits)) 100000 ≡ min (decimal_value l.digits) 100000)
