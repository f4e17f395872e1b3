use Rattle.state.proofs.Truths.{laws}
use Rattle.state.proofs.laws.laws_hold.Goals as goal

pub returns : goal.returns
returns c = laws
