use Rattle.std.proofs.Common.{◌+◌, leb, Ok, Err, Some, sym, ap, ◌∙◌, subst, rules}
use Rattle.std.specs.Option.{option_map}
use Rattle.cnf.specs.declared.refusal.Check.TheVariants.{TicksLeft}
use Rattle.cnf.specs.Refusals.{refused}
use Rattle.state.specs.Model.{Model, Paced}
use Rattle.state.specs.Searches.{model}
use Rattle.policy.specs.Levels.{Levels}
use Rattle.engine.specs.Steps.{offer, left}
use Rattle.engine.specs.Calls.{step_reply}
use Rattle.engine.proofs.Going.{step_sound}
use Rattle.engine.proofs.StepCases.{filled_search, kept, passed}
use Rattle.engine.proofs.engine.Engine.step.Goals as goal

pub returns-in_default : goal.returns-in_default
unfolding step_reply
returns-in_default g c =
    let e = ap (λ o. step_reply (g.P.Policy.level c.args.policy.now) g.S.Source.meaning o c.args.source.now) (ap (option_map model) c.in_default.is) in
    record {
      answer = ap Err c.at.ensures ∙ sym (ap (λ d. d.answer) e);
      model = ap (option_map model) c.in_default.is ∙ sym (ap (λ d. d.model) e);
      source = sym (ap (λ d. d.source) e);
    }

pub returns-in_err-check_ticks : goal.returns-in_err-check_ticks
unfolding step_reply
returns-in_err-check_ticks g c = search rules

pub invariant_of-self-2 : goal.invariant_of-self-2
invariant_of-self-2 g c =
    let f : Levels = g.P.Policy.level c.args.policy.now in
    let o = offer g.S.Source.meaning c.args.source.now in
    let m : Model = model c.in-Some.search in
    let q = step_sound f o m (filled_search c.in-Some.search) (c.args.self.now.paced c.in-Some.search c.in-Some.is) in
    record { paced = kept c.advance.new.search (subst Paced (sym c.advance.ensures.model) q.paced) }

pub returns : goal.returns
unfolding step_reply
returns g c =
    let f : Levels = g.P.Policy.level c.args.policy.now in
    let u = g.S.Source.meaning in
    let s = c.args.source.now in
    let m : Model = model c.in-Some.search in
    let e = ap (λ o. step_reply f u o s) (ap (option_map model) c.in-Some.is) ∙ passed (leb (m.tick + 1) 1000000) _ (refused TicksLeft 0) _ _ c.in_ok-check_ticks.ensures in
    record {
      answer = ap Ok c.advance.ensures.answer ∙ sym (ap (λ d. d.answer) e);
      model = ap Some c.advance.ensures.model ∙ sym (ap (λ d. d.model) e);
      source = c.advance.ensures.source ∙ ap (λ a. left u a s) c.advance.ensures.answer ∙ sym (ap (λ d. d.source) e);
    }
