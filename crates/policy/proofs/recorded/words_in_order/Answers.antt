use Rattle.policy.proofs.Recordings.{words_in_order}
use Rattle.policy.proofs.recorded.words_in_order.Goals as goal

pub returns : goal.returns
returns c = words_in_order
