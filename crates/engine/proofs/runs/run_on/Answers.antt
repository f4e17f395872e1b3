use Rattle.std.proofs.Common.{◌≡◌, ◌+◌, ◌<◌, ◌++◌, take, drop, length, sym, ap, ◌∙◌, subst, arith}
use Rattle.std.proofs.lemmas.List.{length-take, set-get_or}
use Rattle.policy.specs.Levels.{Levels}
use Rattle.state.specs.Model.{Model, Paced}
use Rattle.state.specs.Searches.{model}
use Rattle.engine.specs.declared.answers.Stepped.TheVariants as step
use Rattle.engine.specs.Steps.{stepped, offer, run, ran_to}
use Rattle.engine.proofs.StepCases.{filled_search}
use Rattle.engine.proofs.Going.{step_sound, going_none, going_more, stops_still, stops_at_end, Still, still, whole_trail}
use Rattle.engine.proofs.runs.run_on.Goals as goal

pub loop-i-init : goal.loop-i-init
loop-i-init g c = record {
  ticks = omega arith;
  pace = c.requires.pace;
  going = going_none (g.P.Policy.level c.args.policy.now) g.S.Source.meaning c.args.budget (model c.args.search.now) c.args.source.now (take c.args.budget c.args.trail.now);
}

pub loop-i-preserved : goal.loop-i-preserved
loop-i-preserved g c =
    let f : Levels = g.P.Policy.level c.args.policy.now in
    let u = g.S.Source.meaning in
    let m : Model = model c.loop-i.search in
    let s = c.loop-i.source in
    let l : c.loop-i.i < c.args.budget = omega (arith, length-take c.args.budget c.args.trail.now, c.loop-i-test.true) in
    let a = stepped f (offer u s) m in
    let k : model c.advance.new.search ≡ a.model = c.in-Moved.ensures.model in
    let q = step_sound f (offer u s) m (filled_search c.loop-i.search) c.loop-i.invariant.pace in
    let t = ap (λ x. x.tick) k in
    record {
      ticks = omega (arith, t, q.ticks, c.loop-i.invariant.ticks);
      pace = subst Paced (sym k) q.paced;
      going =
          going_more f u c.args.budget (model c.args.search.now) c.args.source.now (take c.args.budget c.args.trail.now) c.loop-i.i m s c.loop-i.record-items c.loop-i.dives l c.loop-i.invariant.going c.in-Moved.entry (model c.advance.new.search) c.advance.new.source (omega (arith, c.loop-i.auto.record-items, c.loop-i-test.true)) (sym c.in-Moved.ensures.answer) (sym k) (sym c.in-Moved.ensures.source) (c.loop-i.dives + c.dives_of-dives.result) (ap (λ n. c.loop-i.dives + n) c.dives_of-dives.ensures);
    }

pub returns-in-Found : goal.returns-in-Found
returns-in-Found g c =
    let f : Levels = g.P.Policy.level c.args.policy.now in
    let u = g.S.Source.meaning in
    let m : Model = model c.loop-i.search in
    let s = c.loop-i.source in
    let l : c.loop-i.i < c.args.budget = omega (arith, length-take c.args.budget c.args.trail.now, c.loop-i-test.true) in
    let q = stops_still f u c.args.budget (model c.args.search.now) c.args.source.now (take c.args.budget c.args.trail.now) c.loop-i.i m s c.loop-i.record-items c.loop-i.dives step.Found l c.loop-i.invariant.going (sym c.in-Found.ensures.answer) tt in
    let e : (stepped f (offer u s) m).model ≡ m = still f (offer u s) m (subst Still c.in-Found.ensures.answer tt) in
    record { answer = q.answer; model = c.in-Found.ensures.model ∙ e ∙ q.ends; source = c.in-Found.ensures.source ∙ q.source; trail = ap (λ k. k ++ drop c.args.budget c.args.trail.now) (set-get_or c.loop-i.record-items c.loop-i.i _) ∙ whole_trail (run f u c.args.budget (model c.args.search.now) c.args.source.now).moves c.loop-i.record-items c.args.trail.now c.args.budget (omega (arith, ap (λ k. k.1) q.answer, l)) c.requires.trail q.records }

pub returns-in-Dry : goal.returns-in-Dry
returns-in-Dry g c =
    let f : Levels = g.P.Policy.level c.args.policy.now in
    let u = g.S.Source.meaning in
    let m : Model = model c.loop-i.search in
    let s = c.loop-i.source in
    let l : c.loop-i.i < c.args.budget = omega (arith, length-take c.args.budget c.args.trail.now, c.loop-i-test.true) in
    let q = stops_still f u c.args.budget (model c.args.search.now) c.args.source.now (take c.args.budget c.args.trail.now) c.loop-i.i m s c.loop-i.record-items c.loop-i.dives step.Dry l c.loop-i.invariant.going (sym c.in-Dry.ensures.answer) tt in
    let e : (stepped f (offer u s) m).model ≡ m = still f (offer u s) m (subst Still c.in-Dry.ensures.answer tt) in
    record { answer = q.answer; model = c.in-Dry.ensures.model ∙ e ∙ q.ends; source = c.in-Dry.ensures.source ∙ q.source; trail = ap (λ k. k ++ drop c.args.budget c.args.trail.now) (set-get_or c.loop-i.record-items c.loop-i.i _) ∙ whole_trail (run f u c.args.budget (model c.args.search.now) c.args.source.now).moves c.loop-i.record-items c.args.trail.now c.args.budget (omega (arith, ap (λ k. k.1) q.answer, l)) c.requires.trail q.records }

pub returns : goal.returns
returns g c =
    let f : Levels = g.P.Policy.level c.args.policy.now in
    let u = g.S.Source.meaning in
    let m : Model = model c.loop-i.search in
    let l : c.args.budget ≡ length (take c.args.budget c.args.trail.now) = omega (arith, length-take c.args.budget c.args.trail.now, c.requires.trail) in
    let q = stops_at_end f u c.args.budget (model c.args.search.now) c.args.source.now (take c.args.budget c.args.trail.now) c.loop-i.i m c.loop-i.source c.loop-i.record-items c.loop-i.dives (omega (arith, l, c.loop-i-test.false)) c.loop-i.invariant.going in
    let n : c.args.budget ≡ c.loop-i.i = omega (arith, l, c.loop-i-test.false, c.loop-i.auto.i-end) in
    record {
      answer = ap (λ o. (o, c.args.budget, c.loop-i.dives)) c.last_look.ensures ∙ ap (λ k. (ran_to m, k, c.loop-i.dives)) n ∙ q.answer;
      model = q.ends;
      source = q.source;
      trail = whole_trail (run f u c.args.budget (model c.args.search.now) c.args.source.now).moves c.loop-i.record-items c.args.trail.now c.args.budget (omega (arith, ap (λ k. k.1) q.answer, n)) c.requires.trail q.records;
    }
