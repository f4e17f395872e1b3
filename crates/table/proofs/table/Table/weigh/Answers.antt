use Rattle.std.proofs.Common.{◌*◌, ◌^◌, ◌<◌, sym, subst, arith}
use Rattle.std.proofs.lemmas.Bool.{ltb-true, ltb-false}
use Rattle.formula.specs.Formulas.{clause_count}
use Rattle.table.proofs.Weighs.{gained_small, share_sum, share_small, unsmoothed, smoothed}
use Rattle.table.proofs.table.Table.weigh.Goals as goal

pub share_of-share-requires-clause-light : goal.share_of-share-requires-clause-light
share_of-share-requires-clause-light c =
    omega (arith, gained_small c.args.f.now c.args.self.now c.gain_weights.new.self c.requires.sound c.requires.light c.gain_weights.ensures, c.gain_weights.ensures.sound.totals)

pub smooth-requires-clause-light : goal.smooth-requires-clause-light
smooth-requires-clause-light c = gained_small c.args.f.now c.args.self.now c.gain_weights.new.self c.requires.sound c.requires.light c.gain_weights.ensures

pub smooth-requires-clause-shares : goal.smooth-requires-clause-shares
smooth-requires-clause-shares c =
    let f = c.args.f.now in
    let n = clause_count f in
    let u = c.gain_weights.new.self in
    let s = gained_small f c.args.self.now u c.requires.sound c.requires.light c.gain_weights.ensures in
    let e = c.gain_weights.ensures.sound.totals in
    let a = share_sum f.variables n u.total in
    let b = share_small f.variables n u.total c.requires.some in
    (subst (λ k. n * k < 2 ^ 31) (sym c.share_of-share.ensures) (omega arith), subst (λ k. k < 2 ^ 31) (sym c.share_of-share.ensures) (omega arith))

pub returns-then-is_heavy : goal.returns-then-is_heavy
returns-then-is_heavy c =
    smoothed c.args.f.now c.args.self.now c.gain_weights.new.self c.requires.sound c.requires.light c.gain_weights.ensures c.share_of-share.result c.smooth.new.self (ltb-true _ _ (sym c.if-is_heavy.ensures)) c.share_of-share.ensures c.smooth.ensures

pub returns-else-is_heavy : goal.returns-else-is_heavy
returns-else-is_heavy c =
    unsmoothed c.args.f.now c.args.self.now c.gain_weights.new.self c.requires.sound c.requires.light c.gain_weights.ensures (ltb-false _ _ (sym c.if-is_heavy.ensures))
