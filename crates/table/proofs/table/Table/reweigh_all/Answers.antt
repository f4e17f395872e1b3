use Rattle.std.proofs.Common.{subst, arith}
use Rattle.table.proofs.Weighings.{weighing_light, weighing_more, row_now}
use Rattle.table.proofs.table.Table.reweigh_all.Goals as goal

pub reweigh-requires-clause-light : goal.reweigh-requires-clause-light
reweigh-requires-clause-light g c =
    let f = c.args.f.now in
    let t = c.args.self.now in
    let u = c.loop-i.self in
    let i = c.loop-i.i in
    let V = c.requires.light.0 in
    let w = c.loop-i.invariant V c.requires.light.1 in
    let given = subst (λ row. g.R.Fn.post c.args.rule (row, tt) c.rule-weight.result) (row_now f V i t u w) c.rule-weight.ensures in
    weighing_light f V i c.rule-weight.result t u (c.requires.light.1 i c.rule-weight.result (omega arith) given) w c.requires.light.2

pub reweigh-requires-clause-sound : goal.reweigh-requires-clause-sound
reweigh-requires-clause-sound g c = (c.loop-i.invariant c.requires.light.0 c.requires.light.1).sound

pub loop-i-preserved : goal.loop-i-preserved
loop-i-preserved g c = λ V h.
    let f = c.args.f.now in
    let t = c.args.self.now in
    let u = c.loop-i.self in
    let i = c.loop-i.i in
    let w = c.loop-i.invariant V h in
    let given = subst (λ row. g.R.Fn.post c.args.rule (row, tt) c.rule-weight.result) (row_now f V i t u w) c.rule-weight.ensures in
    weighing_more f V i c.rule-weight.result t u c.reweigh.new.self (h i c.rule-weight.result (omega arith) given) w c.reweigh.ensures
