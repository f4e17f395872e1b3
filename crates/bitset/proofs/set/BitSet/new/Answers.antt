use Rattle.std.proofs.Common.{refl}
use Rattle.bitset.proofs.Members.{has_none, counted_none}
use Rattle.bitset.proofs.set.BitSet.new.Goals as goal

pub invariant_of-result : goal.invariant_of-result
invariant_of-result c = record { size = refl; counted = counted_none 16 }

pub returns : goal.returns
returns c = has_none 16
