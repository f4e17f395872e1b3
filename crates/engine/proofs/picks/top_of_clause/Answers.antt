use Rattle.std.proofs.Common.{rules, ◌<◌, sym, subst, ap, ◌∙◌}
use Rattle.std.proofs.lemmas.List.{get_or_default}
use Rattle.formula.specs.Entries.{entry0}
use Rattle.std.proofs.ByRecursion.{All-map, all_from_every}
use borrow.Author.Tests.{tests}
use Rattle.std.proofs.lemmas.Iterator.{YieldsList-from_slice, YieldsList-from_map}
use Rattle.formula.specs.declared.entry.Entry.{Entry}
use Rattle.state.specs.Searches.{model}
use Rattle.engine.specs.Picks.{outranks, best_of}
use Rattle.engine.proofs.Leasts.{RankIs, least_callable, least_is}
use Rattle.engine.proofs.picks.top_of_clause.Goals as goal

pub min_by_key-requires-clause-callable : goal.min_by_key-requires-clause-callable
min_by_key-requires-clause-callable c =
    least_callable _ _ _ (RankIs (model c.args.search.now)) (λ x k q h. search rules) {s = c.map-variables.result}
    (YieldsList-from_map _ (λ (e : Entry). e.variable) (YieldsList-from_slice c.entries.result.now (search rules)) (search rules) (λ x r q k. search rules))
    (All-map _ (λ (e : Entry). e.variable) c.entries.result.now (all_from_every _ c.entries.result.now (λ k d _ l y e _ _ _ _ _ _. subst (λ v. v < (model c.args.search.now).variables) (sym (e ∙ ap (λ (w : Entry). w.variable) (get_or_default c.entries.result.now k d entry0 l))) (c.entries.ensures.below k l))))

pub returns-clause-is : goal.returns-clause-is
returns-clause-is c =
    least_is _ _ _ (RankIs (model c.args.search.now)) (λ x k q h. search rules)
    (outranks (model c.args.search.now)) (λ o b x kb kx p q e. search (rules, tests)) {s = c.map-variables.result}
    _ c.min_by_key.ensures.ran
    (YieldsList-from_map _ (λ (e : Entry). e.variable) (YieldsList-from_slice c.entries.result.now (search rules)) (search rules) (λ x r q k. search rules))
    ∙ ap (best_of (outranks (model c.args.search.now))) c.entries.ensures.variables
