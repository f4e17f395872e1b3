use Rattle.std.proofs.Common.{◌≡◌, length, get_or, sym, ap, ◌∙◌, arith}
use Rattle.formula.specs.Occurrences.{passing}
use Rattle.bitset.specs.Sets.{member}
use Rattle.formula.proofs.Passing.{passing_still, passing_yes, passing_at}
use Rattle.bitset.proofs.set.BitSet.nth.Goals as goal

pub loop-preserved : goal.loop-preserved
loop-preserved c =
    let p = member c.args.self.now in
    let f = c.present_from-at.ensures in
    (omega (arith, passing_yes p c.present_from-at.result f.passes, passing_still p c.loop.at c.present_from-at.result f.from f.before, c.loop.invariant.0), omega (arith, f.below))

pub returns : goal.returns
returns c =
    let p = member c.args.self.now in
    let f = c.present_from.ensures in
    let e : length (passing p c.present_from.result) ≡ c.args.place = omega (arith, passing_still p c.loop.at c.present_from.result f.from f.before, c.loop.invariant.0, c.loop.auto.counter-end, c.loop-test.false) in
    record { is = sym (ap (λ k. get_or (passing p 1024) k 0) (sym e) ∙ passing_at p c.present_from.result 1024 f.below f.passes); inside = f.passes }
