use Rattle.std.proofs.Common.{arith}
use Rattle.bitset.specs.Sets.{member}
use Rattle.formula.proofs.Passing.{passing_still}
use Rattle.bitset.proofs.Members.{some_unless}
use Rattle.bitset.proofs.set.BitSet.present_from.Goals as goal

pub unwrap-requires : goal.unwrap-requires
unwrap-requires c = some_unless _ _ _ c.first_from.ensures (λ none. omega (arith, c.requires.left, passing_still (member c.args.self.now) c.args.from 1024 c.requires.inside (λ j l _. none j l)))
