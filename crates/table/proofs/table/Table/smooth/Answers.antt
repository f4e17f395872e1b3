use Rattle.std.proofs.Common.{◌<◌, ◌^◌, rules, tests, arith}
use Rattle.formula.specs.Formulas.{clause_count}
use Rattle.formula.proofs.Sums.{sum_to_term}
use Rattle.table.specs.Rows.{weight_at, eased_at}
use Rattle.table.proofs.Weighings.{eased_light}
use Rattle.table.proofs.table.Table.smooth.Goals as goal

pub reweigh_all-requires-clause-callable : goal.reweigh_all-requires-clause-callable
reweigh_all-requires-clause-callable c = λ k l.
    let small : weight_at c.args.self.now k < 2 ^ 31 = omega (arith, sum_to_term (clause_count c.args.f.now) (weight_at c.args.self.now) k l, c.requires.light) in
    let share = c.requires.shares.1 in
    search (rules, tests)

pub reweigh_all-requires-clause-light : goal.reweigh_all-requires-clause-light
reweigh_all-requires-clause-light c =
    let f = c.args.f.now in
    let t = c.args.self.now in
    (eased_at t c.args.share, λ k w l h. search (rules, tests), omega (arith, c.requires.light, c.requires.shares.0, eased_light (clause_count f) t c.args.share))

pub returns : goal.returns
returns c = c.reweigh_all.ensures (eased_at c.args.self.now c.args.share) (λ k w l h. search (rules, tests))
