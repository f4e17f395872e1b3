use Rattle.std.proofs.Common.{refl}
use Rattle.formula.proofs.Lists.{inside_none}
use Rattle.formula.proofs.occurrences.Occurrences.new.Goals as goal

pub invariant_of-result : goal.invariant_of-result
invariant_of-result c = record { rows = refl; inside = inside_none 256 _ }
