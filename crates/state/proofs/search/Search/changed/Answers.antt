use Rattle.std.proofs.Common.{◌<◌, arith, rules}
use Rattle.state.proofs.Facts.{keeps}
use Rattle.state.proofs.Models.{changed_is}
use Rattle.state.proofs.search.Search.changed.Goals as goal

pub offset_bounds-self-x : goal.offset_bounds-self-x
offset_bounds-self-x c =
    let h : c.args.x < 256 = omega (arith, c.args.self.now.formula.made.few_variables, c.requires) in
    search rules

pub bounds-self-x : goal.bounds-self-x
bounds-self-x c =
    let h : c.args.x < 256 = omega (arith, c.args.self.now.formula.made.few_variables, c.requires) in
    search rules

pub returns : goal.returns
returns c =
    let s = c.args.self.now in
    changed_is s.given s.formula s.occurrences s.table (keeps s) c.args.x c.requires
