use Rattle.std.proofs.Common.{length, sym, arith}
use Rattle.dimacs.specs.Reads.{body_tokens}
use Rattle.dimacs.proofs.Accepted.{Counts, counts, head_within}
use Rattle.dimacs.proofs.read.read.Goals as goal
use Rattle.dimacs.proofs.read.read.Goals.{In_ok-tally}

known : (c : In_ok-tally) → Counts (body_tokens c.args.text.now c.in_ok-head.head) c.in_ok-tally.tally
known c =
    counts c.in_ok-head.head.variables c.in_ok-head.head.clauses (length c.args.text.now) (body_tokens c.args.text.now c.in_ok-head.head) c.in_ok-tally.tally (sym c.in_ok-tally.ensures)

pub check_clauses-requires : goal.check_clauses-requires
check_clauses-requires c = (head_within c.args.text.now c.in_ok-head.head (sym c.in_ok-head.ensures)).1

pub overflow_add-count : goal.overflow_add-count
overflow_add-count c = let k = known (goal.at.overflow_add-count c).In_ok-tally in record { fits = omega (arith, k.few_clauses, k.few_literals) }

pub fill-requires : goal.fill-requires
fill-requires c = let k = known (goal.at.fill-requires c).In_ok-tally in omega (arith, k.number)
