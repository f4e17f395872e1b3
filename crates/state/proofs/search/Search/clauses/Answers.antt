use Rattle.std.proofs.Common.{◌∙◌, arith}
use Rattle.state.proofs.Facts.{keeps}
use Rattle.state.proofs.search.Search.clauses.Goals as goal

pub returns : goal.returns
returns c =
    let k = keeps c.args.self.now in
    record { is = c.clauses.ensures ∙ k.holds.clauses; few = (omega (arith, c.clauses.ensures, k.some.1), omega (arith, c.clauses.ensures, c.args.self.now.formula.made.few_clauses)) }
