use Rattle.std.proofs.Common.{◌≡◌, ◌≤◌, length}
use Rattle.formula.specs.Occurrences.{passing}
use Rattle.bitset.specs.Sets.{member}
use Rattle.bitset.proofs.set.BitSet.nth.Given as goal

abbrev pub invariant-loop : goal.invariant-loop
invariant-loop l = (length (passing (member l.self) l.at) ≡ l.counter) × (l.at ≤ 1024)
