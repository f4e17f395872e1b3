use Rattle.std.proofs.Common.{◌+◌, ◌-◌, ◌/◌, ◌^◌, ap, ◌∙◌, arith}
use lib.Count.{count_trailing_zeros}
use Rattle.bitset.specs.Bits.{bit_at}
use Rattle.bitset.proofs.Bits.{trailing, bits_from}
use Rattle.bitset.proofs.lowest.lowest.Goals as goal

pub returns-then-zeros-from : goal.returns-then-zeros-from
returns-then-zeros-from c =
    let w = c.args.word in
    let i = c.args.from in
    let z = count_trailing_zeros 64 (w / 2 ^ i) in
    let h = trailing 64 (w / 2 ^ i) in
    record {
      from = omega arith;
      below = omega arith;
      set = bits_from w i (i + z) (omega arith) ∙ (ap (bit_at (w / 2 ^ i)) (omega arith) ∙ h.at (omega arith));
      before = λ j p q. bits_from w i j p ∙ h.below (j - i) (omega arith);
    }

pub returns-else-zeros-from : goal.returns-else-zeros-from
returns-else-zeros-from c =
    let w = c.args.word in
    let i = c.args.from in
    let h = trailing 64 (w / 2 ^ i) in
    λ j p q. bits_from w i j p ∙ h.below (j - i) (omega arith)
