use Rattle.std.proofs.Common.{rules, ◌<◌, arith, ap, ◌∙◌}
use Rattle.std.proofs.lemmas.Iterator.{YieldsList-from_range}
use Rattle.std.proofs.lemmas.Iterator.Consumers.{YieldsList-from_filter}
use Rattle.std.proofs.lemmas.List.FromFn.{length-range_with_len, get_or-range_with_len}
use Rattle.std.proofs.ByRecursion.{all_from_every, all_kept_by}
use Rattle.std.specs.List.{range_with_len}
use borrow.Author.Tests.{tests}
use Rattle.state.specs.Searches.{model}
use Rattle.engine.specs.Picks.{admits, goes_before, best_of}
use Rattle.engine.proofs.Leasts.{StandingIs, least_callable, least_is, filtered_passing}
use Rattle.engine.proofs.picks.scan.Goals as goal

pub min_by_key-requires-clause-callable : goal.min_by_key-requires-clause-callable
min_by_key-requires-clause-callable g c =
    let f = g.P.Policy.level c.args.policy.now in
    let m = model c.args.search.now in
    let n = m.variables in
    least_callable _ _ _ (StandingIs f m) (λ x k q h. search rules) {s = c.filter-admitted.result}
    (YieldsList-from_filter _ (admits f m) {f = c.filter-admitted.result.p} (YieldsList-from_range 0 n n (search rules) (omega arith)) (search rules) (λ x b q k. search (rules, tests)))
    (all_kept_by (admits f m) _ (range_with_len 0 n) (all_from_every _ (range_with_len 0 n) (λ k d _ l y e _ _ _ _ _ _ _. let h : k < n = omega (arith, length-range_with_len 0 n, l) in omega (arith, e, get_or-range_with_len 0 n k d h, h))))

pub returns-clause-is : goal.returns-clause-is
returns-clause-is g c =
    let f = g.P.Policy.level c.args.policy.now in
    let m = model c.args.search.now in
    let n = m.variables in
    least_is _ _ _ (StandingIs f m) (λ x k q h. search rules)
    (goes_before f m) (λ o b x kb kx p q e. search (rules, tests)) {s = c.filter-admitted.result}
    _ c.min_by_key.ensures.ran
    (YieldsList-from_filter _ (admits f m) {f = c.filter-admitted.result.p} (YieldsList-from_range 0 n n (search rules) (omega arith)) (search rules) (λ x b q k. search (rules, tests)))
    ∙ ap (best_of (goes_before f m)) (filtered_passing (admits f m) n)
