use Rattle.formula.specs.Occurrences.{passing, names_at}
use Rattle.formula.proofs.Lists.{Listing}
use Rattle.formula.proofs.occurrences.Occurrences.add_variable.Given as goal

abbrev pub invariant-loop-i : goal.invariant-loop-i
invariant-loop-i l = Listing (passing (names_at l.f l.variable) l.i) l.initial.self l.self
