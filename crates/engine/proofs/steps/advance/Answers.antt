use Rattle.std.proofs.Common.{◌≡◌, length, Some, sym, ap, ◌∙◌, arith}
use Rattle.policy.specs.Levels.{Levels}
use Rattle.state.specs.Model.{Model, unsatisfied}
use Rattle.state.specs.Searches.{model}
use Rattle.engine.specs.declared.answers.Stepped.TheVariants.{Moved}
use Rattle.engine.specs.Picks.{level_of, pick}
use Rattle.engine.specs.Steps.{moved, offer, left}
use Rattle.engine.proofs.Folds.{pick-admitted}
use Rattle.engine.proofs.StepCases.{greedy_step, greedy_left}
use Rattle.engine.proofs.steps.advance.Goals as goal

pub returns-in-Some : goal.returns-in-Some
returns-in-Some g c =
    let f : Levels = g.P.Policy.level c.args.policy.now in
    let u = g.S.Source.meaning in
    let m : Model = model c.args.search.now in
    let x = c.in-Some.x in
    let p : pick f m ≡ Some x = sym c.in-Some.ensures.is in
    let ne : length (unsatisfied m) ≡ 0 → ⊥ = λ z. omega (arith, c.unsatisfied_count.ensures) in
    let e = greedy_step f (offer u c.args.source.now) m x ne p in
    let r : c.flip_by.result ≡ moved (level_of f m x) x m = c.flip_by.ensures.recorded ∙ ap (λ l. moved l x m) (c.mode_of-mode.ensures ∙ c.level_of.ensures) in
    record {
      answer = ap Moved r ∙ sym (ap (λ a. a.answer) e);
      model = c.flip_by.ensures.model ∙ sym (ap (λ a. a.model) e);
      source = sym (ap (λ v. left u (Moved v) c.args.source.now) r ∙ greedy_left u (level_of f m x) x m c.args.source.now (pick-admitted f m x p));
    }
