use Rattle.std.proofs.Common.{◌≡◌, ◌+◌, ◌-◌, ◌*◌, min, get_or, drop, ap, ◌∙◌, arith}
use Rattle.words.specs.Numbers.{decimal_after}
use Rattle.words.proofs.Numbers.{decimal_more}
use Rattle.words.proofs.number.magnitude.Goals as goal

pub loop-b-preserved : goal.loop-b-preserved
loop-b-preserved c =
    let e : c.min-n.result ≡ min (c.loop-b.n * 10 + (get_or c.args.digits.now c.loop-b.b-index 0 - 48)) 100000 = cc in (
      omega arith,
      ap (λ k. min (decimal_after k (drop (c.loop-b.b-index + 1) c.args.digits.now)) 100000) e ∙ decimal_more c.args.digits.now c.loop-b.b-index c.loop-b-test.true c.loop-b.n ∙ c.loop-b.invariant.1,
    )
