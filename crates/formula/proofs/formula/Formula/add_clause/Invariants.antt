use Rattle.formula.specs.Entries.{entries_to}
use Rattle.formula.proofs.Adding.{Adding}
use Rattle.formula.proofs.formula.Formula.add_clause.Given as goal

abbrev pub invariant-loop-v : goal.invariant-loop-v
invariant-loop-v l = Adding (entries_to l.clause l.v) l.initial.self l.self
