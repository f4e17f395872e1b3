use Rattle.std.proofs.Common.{suc, refl, arith}
use Rattle.formula.proofs.Lists.{inside_none, lists_room}
use Rattle.formula.proofs.occurrences.Occurrences.fill.Goals as goal

pub invariant_of-self : goal.invariant_of-self
invariant_of-self c = record { rows = refl; inside = inside_none 256 _ }

pub add_variable-requires-clause-clauses_bound : goal.add_variable-requires-clause-clauses_bound
add_variable-requires-clause-clauses_bound c = omega (arith, lists_room c.args.f.now (suc c.loop-v.v) (omega arith), c.loop-v.invariant.1)
