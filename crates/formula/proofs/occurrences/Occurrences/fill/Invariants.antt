use Rattle.std.proofs.Common.{◌≡◌, length}
use Rattle.formula.specs.Clauses.{sum_to}
use Rattle.formula.specs.Formulas.{clause_count}
use Rattle.formula.specs.Occurrences.{OccursTo, passing, names_at, listed}
use Rattle.formula.proofs.occurrences.Occurrences.fill.Given as goal

abbrev pub invariant-loop-v : goal.invariant-loop-v
invariant-loop-v l = OccursTo l.f l.v l.self × (listed l.self ≡ sum_to l.v (λ x. length (passing (names_at l.f x) (clause_count l.f))))
