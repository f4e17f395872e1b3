use Rattle.std.proofs.Common.{◌≡◌, ℕ, ◌+◌, ◌*◌, ◌<◌, ◌≤◌, false}
use Rattle.bitset.specs.Sets.{member}
use Rattle.bitset.proofs.set.BitSet.first_from.Given as goal

abbrev pub invariant-loop-i : goal.invariant-loop-i
invariant-loop-i l = (l.from ≤ (l.first + l.i) * 64 + l.low) × (l.low < 64) × ((j : ℕ) → l.from ≤ j → j < (l.first + l.i) * 64 + l.low → member l.self j ≡ false)
