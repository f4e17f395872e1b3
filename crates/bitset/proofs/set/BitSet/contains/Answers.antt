use Rattle.std.proofs.Common.{◌/◌, ◌%◌, ◌^◌, eqb, get_or, ap}
use lib.Bits.{and_mask}
use Rattle.bitset.specs.Bits.{has}
use Rattle.bitset.proofs.set.BitSet.contains.Goals as goal

pub returns : goal.returns
unfolding has
returns c = ap (λ m. eqb m 1) (and_mask (get_or c.args.self.now.words (c.args.k / 64) 0 / 2 ^ (c.args.k % 64)) 1)
