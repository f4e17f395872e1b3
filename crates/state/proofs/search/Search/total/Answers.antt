use Rattle.std.proofs.Common.{rules}
use Rattle.state.proofs.Facts.{keeps}
use Rattle.state.proofs.Models.{total_is}
use Rattle.state.proofs.search.Search.total.Goals as goal

pub overflow_cast-result : goal.overflow_cast-result
overflow_cast-result c =
    let h = (keeps c.args.self.now).limited in
    search rules

pub returns : goal.returns
returns c =
    let s = c.args.self.now in
    total_is s.given s.formula s.occurrences s.table (keeps s)
