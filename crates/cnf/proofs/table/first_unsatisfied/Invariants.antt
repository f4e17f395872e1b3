use Rattle.std.proofs.Common.{◌≡◌, ◌+◌, ◌≤◌, length, drop, None}
use Rattle.cnf.specs.Tables.{values_of, satisfied, clauses_of, first_unsatisfied}
use Rattle.cnf.proofs.table.first_unsatisfied.Given as goal

-- what is left of the table names the same clause as the whole
abbrev pub invariant-clauses : goal.invariant-clauses
invariant-clauses l = record {
  few : l.clause + length l.left ≤ length l.words;
  none : l.broken ≡ None;
  same : first_unsatisfied (values_of l.start) (l.clause + 1) (clauses_of l.left) ≡ first_unsatisfied (values_of l.start) 1 (clauses_of l.words);
}

-- the literals left decide the clause
abbrev pub invariant-loop-literal : goal.invariant-loop-literal
invariant-loop-literal l = satisfied (values_of l.start) (drop l.literal-index l.literals) ≡ satisfied (values_of l.start) l.literals

abbrev pub decreases-clauses : goal.decreases-clauses
decreases-clauses l = length l.left
