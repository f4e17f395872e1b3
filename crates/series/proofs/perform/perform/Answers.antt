use Rattle.std.proofs.Common.{sym, ap, ◌∙◌}
use Rattle.series.specs.declared.call.Answer.TheVariants as answer
use Rattle.engine.specs.Engines.{held}
use Rattle.series.specs.Series.{lent, look, given, perform as performed}
use Rattle.series.proofs.Performs.{load_alike, restart_alike, step_untrailed}
use Rattle.series.proofs.perform.perform.Goals as goal

pub returns-in-Load : goal.returns-in-Load
unfolding performed
returns-in-Load g c =
    let lv = g.P.Policy.level in
    let u = g.S.Source.meaning in
    let o = held c.args.engine.now in
    let ss = c.args.sources.now in
    let trail = c.args.trail.now in
    let e = ap (λ k. performed lv u c.args.lent.words.now c.args.lent.starts.now c.args.lent.policies.now k o ss trail) c.in-Load.is in
    let a = load_alike o ss trail c.in-Load.variables (lent c.args.lent.words.now c.in-Load.words) (lent c.args.lent.starts.now c.in-Load.start) in
    record { reply = c.load_from.ensures.reply ∙ a.reply ∙ sym (ap (λ p. p.reply) e); model = c.load_from.ensures.model ∙ a.model ∙ sym (ap (λ p. p.model) e); sources = a.sources ∙ sym (ap (λ p. p.sources) e); trail = a.records ∙ sym (ap (λ p. p.trail) e) }

pub returns-in-Restart : goal.returns-in-Restart
unfolding performed
returns-in-Restart g c =
    let lv = g.P.Policy.level in
    let u = g.S.Source.meaning in
    let o = held c.args.engine.now in
    let ss = c.args.sources.now in
    let trail = c.args.trail.now in
    let e = ap (λ k. performed lv u c.args.lent.words.now c.args.lent.starts.now c.args.lent.policies.now k o ss trail) c.in-Restart.is in
    let a = restart_alike o ss trail (lent c.args.lent.starts.now c.in-Restart.start) in
    record { reply = c.restart_from.ensures.reply ∙ a.reply ∙ sym (ap (λ p. p.reply) e); model = c.restart_from.ensures.model ∙ a.model ∙ sym (ap (λ p. p.model) e); sources = a.sources ∙ sym (ap (λ p. p.sources) e); trail = a.records ∙ sym (ap (λ p. p.trail) e) }

pub returns-in-Flip : goal.returns-in-Flip
unfolding performed
returns-in-Flip g c =
    let lv = g.P.Policy.level in
    let u = g.S.Source.meaning in
    let o = held c.args.engine.now in
    let ss = c.args.sources.now in
    let trail = c.args.trail.now in
    let e = ap (λ k. performed lv u c.args.lent.words.now c.args.lent.starts.now c.args.lent.policies.now k o ss trail) c.in-Flip.is in
    record { reply = c.done.ensures ∙ ap (given (λ _. answer.Done)) c.flip.ensures.answer ∙ sym (ap (λ p. p.reply) e); model = c.flip.ensures.model ∙ sym (ap (λ p. p.model) e); sources = sym (ap (λ p. p.sources) e); trail = sym (ap (λ p. p.trail) e) }

pub returns-in-Weigh : goal.returns-in-Weigh
unfolding performed
returns-in-Weigh g c =
    let lv = g.P.Policy.level in
    let u = g.S.Source.meaning in
    let o = held c.args.engine.now in
    let ss = c.args.sources.now in
    let trail = c.args.trail.now in
    let e = ap (λ k. performed lv u c.args.lent.words.now c.args.lent.starts.now c.args.lent.policies.now k o ss trail) c.in-Weigh.is in
    record { reply = c.weigh_once.ensures.reply ∙ sym (ap (λ p. p.reply) e); model = c.weigh_once.ensures.model ∙ sym (ap (λ p. p.model) e); sources = sym (ap (λ p. p.sources) e); trail = sym (ap (λ p. p.trail) e) }

pub returns-in-Step : goal.returns-in-Step
unfolding performed
returns-in-Step g c =
    let lv = g.P.Policy.level in
    let u = g.S.Source.meaning in
    let o = held c.args.engine.now in
    let ss = c.args.sources.now in
    let trail = c.args.trail.now in
    let e = ap (λ k. performed lv u c.args.lent.words.now c.args.lent.starts.now c.args.lent.policies.now k o ss trail) c.in-Step.is in
    let a = step_untrailed lv u (look c.args.lent.policies.now c.in-Step.policy) (look ss c.in-Step.source) c.in-Step.source o ss trail in
    record { reply = c.step_with.ensures.reply ∙ a.reply ∙ sym (ap (λ p. p.reply) e); model = c.step_with.ensures.model ∙ a.model ∙ sym (ap (λ p. p.model) e); sources = c.step_with.ensures.sources ∙ a.sources ∙ sym (ap (λ p. p.sources) e); trail = a.records ∙ sym (ap (λ p. p.trail) e) }

pub returns-in-Run : goal.returns-in-Run
unfolding performed
returns-in-Run g c =
    let lv = g.P.Policy.level in
    let u = g.S.Source.meaning in
    let o = held c.args.engine.now in
    let ss = c.args.sources.now in
    let trail = c.args.trail.now in
    let e = ap (λ k. performed lv u c.args.lent.words.now c.args.lent.starts.now c.args.lent.policies.now k o ss trail) c.in-Run.is in
    record { reply = c.run_with.ensures.reply ∙ sym (ap (λ p. p.reply) e); model = c.run_with.ensures.model ∙ sym (ap (λ p. p.model) e); sources = c.run_with.ensures.sources ∙ sym (ap (λ p. p.sources) e); trail = c.run_with.ensures.trail ∙ sym (ap (λ p. p.trail) e) }

pub returns-in-Ask : goal.returns-in-Ask
unfolding performed
returns-in-Ask g c =
    let lv = g.P.Policy.level in
    let u = g.S.Source.meaning in
    let o = held c.args.engine.now in
    let ss = c.args.sources.now in
    let trail = c.args.trail.now in
    let e = ap (λ k. performed lv u c.args.lent.words.now c.args.lent.starts.now c.args.lent.policies.now k o ss trail) c.in-Ask.is in
    record { reply = c.ask.ensures ∙ sym (ap (λ p. p.reply) e); model = sym (ap (λ p. p.model) e); sources = sym (ap (λ p. p.sources) e); trail = sym (ap (λ p. p.trail) e) }
