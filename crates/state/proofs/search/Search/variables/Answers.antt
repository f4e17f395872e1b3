use Rattle.std.proofs.Common.{refl}
use Rattle.state.proofs.Facts.{keeps}
use Rattle.state.proofs.search.Search.variables.Goals as goal

pub returns : goal.returns
returns c =
    let k = keeps c.args.self.now in
    record { is = refl; few = (k.some.0, c.args.self.now.formula.made.few_variables) }
