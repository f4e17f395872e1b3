use Rattle.std.proofs.Common.{rules, arith}
use Rattle.formula.specs.Formulas.{clause_count}
use Rattle.formula.proofs.Sums.{sum_to_const}
use Rattle.table.proofs.table.Table.level.Goals as goal

pub reweigh_all-requires-clause-light : goal.reweigh_all-requires-clause-light
reweigh_all-requires-clause-light c =
    let f = c.args.f.now in
    (λ _. 1, λ k w l h. search rules, omega (arith, c.requires.light, sum_to_const (clause_count f) 1, f.made.few_clauses))

pub returns : goal.returns
returns c = c.reweigh_all.ensures (λ _. 1) (λ k w l h. search rules)
