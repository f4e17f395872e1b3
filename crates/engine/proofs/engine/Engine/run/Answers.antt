use Rattle.std.proofs.Common.{◌≡◌, Ok, Err, Some, sym, ap, ◌∙◌, subst, rules}
use Rattle.std.specs.Option.{option_map}
use Rattle.cnf.specs.Scans.{and_then}
use Rattle.state.specs.Model.{Model, Paced}
use Rattle.state.specs.Searches.{model}
use Rattle.policy.specs.Levels.{Levels}
use Rattle.engine.specs.Calls.{ticks_left, run_checked, run_with, run_reply, trail_with, run_trail}
use Rattle.engine.proofs.Going.{run_sound}
use Rattle.engine.proofs.StepCases.{filled_search, kept}
use Rattle.engine.proofs.engine.Engine.run.Goals as goal

pub returns-in_default : goal.returns-in_default
unfolding run_reply run_trail
returns-in_default g c =
    let f : Levels = g.P.Policy.level c.args.policy.now in
    let u = g.S.Source.meaning in
    let n = ap (option_map model) c.in_default.is in
    let e = ap (λ o. run_reply f u c.args.budget o c.args.source.now c.args.trail.now) n in
    record {
      answer = ap Err c.at.ensures ∙ sym (ap (λ d. d.answer) e);
      model = n ∙ sym (ap (λ d. d.model) e);
      source = sym (ap (λ d. d.source) e);
      trail = sym (ap (λ o. run_trail f u c.args.budget o c.args.source.now c.args.trail.now) n);
    }

pub returns-in_err-check_budget : goal.returns-in_err-check_budget
unfolding run_reply run_trail
returns-in_err-check_budget g c = search rules

pub returns-in_err-check_ticks : goal.returns-in_err-check_ticks
unfolding run_reply run_trail
returns-in_err-check_ticks g c = search rules

pub invariant_of-self-2 : goal.invariant_of-self-2
invariant_of-self-2 g c =
    let f : Levels = g.P.Policy.level c.args.policy.now in
    let u = g.S.Source.meaning in
    let q = run_sound f u c.args.budget (model c.in-Some.search) c.args.source.now (filled_search c.in-Some.search) (c.args.self.now.paced c.in-Some.search c.in-Some.is) in
    record { paced = kept c.run_on.new.search (subst Paced (sym c.run_on.ensures.model) q.paced) }

pub returns : goal.returns
unfolding run_reply run_trail
returns g c =
    let f : Levels = g.P.Policy.level c.args.policy.now in
    let u = g.S.Source.meaning in
    let b = c.args.budget in
    let s = c.args.source.now in
    let trail = c.args.trail.now in
    let m : Model = model c.in-Some.search in
    let n = ap (option_map model) c.in-Some.is in
    let k : run_checked b trail m ≡ Ok tt = ap (λ r. and_then r (λ _. ticks_left b m)) (sym c.in_ok-check_budget.ensures) ∙ sym c.in_ok-check_ticks.ensures in
    let e = ap (λ o. run_reply f u b o s trail) n ∙ ap (λ r. run_with r f u b m s) k in
    record {
      answer = ap Ok c.run_on.ensures.answer ∙ sym (ap (λ d. d.answer) e);
      model = ap Some c.run_on.ensures.model ∙ sym (ap (λ d. d.model) e);
      source = c.run_on.ensures.source ∙ sym (ap (λ d. d.source) e);
      trail = c.run_on.ensures.trail ∙ sym (ap (λ o. run_trail f u b o s trail) n ∙ ap (λ r. trail_with r f u b m s trail) k);
    }
