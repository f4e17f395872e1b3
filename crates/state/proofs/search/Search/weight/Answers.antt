use Rattle.std.proofs.Common.{◌<◌, sym, arith, rules}
use Rattle.state.proofs.Facts.{keeps}
use Rattle.state.proofs.Models.{weight_is}
use Rattle.state.proofs.search.Search.weight.Goals as goal

pub offset_bounds-self-clause : goal.offset_bounds-self-clause
offset_bounds-self-clause c =
    let s = c.args.self.now in
    let k = keeps s in
    let h : c.args.clause < 1024 = omega (arith, c.args.self.now.formula.made.few_clauses, k.holds.clauses, c.requires) in
    search rules

pub bounds-self-clause : goal.bounds-self-clause
bounds-self-clause c =
    let s = c.args.self.now in
    let k = keeps s in
    let h : c.args.clause < 1024 = omega (arith, c.args.self.now.formula.made.few_clauses, k.holds.clauses, c.requires) in
    search rules

pub returns : goal.returns
returns c =
    let s = c.args.self.now in
    let k = keeps s in
    sym (weight_is s.given s.formula s.occurrences s.table k c.args.clause (omega (arith, k.holds.clauses, c.requires)))
