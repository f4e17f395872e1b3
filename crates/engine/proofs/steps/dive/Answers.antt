use Rattle.std.proofs.Common.{◌≡◌, ℕ, get_or, unwrap_or, ap, ◌∙◌}
use Rattle.state.specs.Model.{Model, unsatisfied, flipped, weighed}
use Rattle.state.specs.Searches.{model}
use Rattle.engine.specs.declared.answers.Stepped.TheVariants.{Moved}
use Rattle.engine.specs.Picks.{dive_pick}
use Rattle.engine.specs.Steps.{moved, place_of, drawn}
use Rattle.engine.proofs.steps.dive.Goals as goal

pub returns : goal.returns
returns c =
    let m : Model = model c.args.search.now in
    let em : model c.weigh.new.self ≡ weighed m = c.weigh.ensures.weighs in
    let clause : c.unsatisfied_at-clause.result ≡ drawn c.args.number m = c.unsatisfied_at-clause.ensures.is ∙ ap (λ p. get_or (unsatisfied m) p 0) (c.place_of-place.ensures.is ∙ ap (place_of c.args.number) c.unsatisfied_count.ensures) in
    let y : ℕ = unwrap_or (dive_pick (weighed m) (drawn c.args.number m)) 0 in
    let x : c.unwrap_or-x.result ≡ y = c.unwrap_or-x.ensures ∙ ap (λ o. unwrap_or o 0) (c.top_of_clause.ensures.is ∙ ap (λ n. dive_pick n c.unsatisfied_at-clause.result) em ∙ ap (dive_pick (weighed m)) clause) in
    record {
      recorded = ap Moved (c.flip_by.ensures.recorded ∙ ap (moved 0 c.unwrap_or-x.result) em ∙ ap (λ k. moved 0 k (weighed m)) x);
      model = c.flip_by.ensures.model ∙ ap (flipped c.unwrap_or-x.result) em ∙ ap (λ k. flipped k (weighed m)) x;
    }
