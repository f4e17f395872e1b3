use Rattle.std.proofs.Common.{rules}
use Rattle.state.proofs.Facts.{keeps}
use Rattle.state.proofs.Models.{cost_is}
use Rattle.state.proofs.Asks.{cost_small}
use Rattle.state.proofs.search.Search.cost.Goals as goal

pub overflow_cast-result : goal.overflow_cast-result
overflow_cast-result c =
    let s = c.args.self.now in
    let h = cost_small s.given s.formula s.occurrences s.table (keeps s) in
    search rules

pub returns : goal.returns
returns c =
    let s = c.args.self.now in
    cost_is s.given s.formula s.occurrences s.table (keeps s)
