use Rattle.std.proofs.Common.{◌≡◌, suc, ◌+◌, ◌-◌, sym, ap, ◌∙◌, arith}
use Rattle.policy.specs.Sources.{after_draws}
use Rattle.generator_run.proofs.number_after.Goals as goal

pub loop-i-preserved : goal.loop-i-preserved
loop-i-preserved g c =
    let u = g.S.Source.meaning in
    let left = c.args.others - (c.loop-i._i + 1) in
    let one_less : c.args.others - c.loop-i._i ≡ suc left = omega arith in
    ap (after_draws u left) c.draw.ensures.after ∙ ap (λ k. after_draws u k c.loop-i.source) (sym one_less) ∙ c.loop-i.invariant
