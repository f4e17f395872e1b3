use Rattle.formula.proofs.Words.{same_meaning}
use Rattle.formula.proofs.laws.entries_mean_the_words.Goals as goal

pub returns : goal.returns
returns c = same_meaning
