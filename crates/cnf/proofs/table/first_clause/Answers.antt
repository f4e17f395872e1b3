use Rattle.std.proofs.Common.{◌+◌, sym, ◌∙◌}
use Rattle.std.proofs.lemmas.List.{take_rest}
use Rattle.cnf.proofs.Clauses.{parted, part_none}
use Rattle.cnf.proofs.table.first_clause.Goals as goal

pub returns-in_err-end : goal.returns-in_err-end
returns-in_err-end c = rw c.from_residual.ensures (part_none c.args.words.now 0 (sym c.first_zero.ensures.place ∙ c.in_err-end.was))

pub returns : goal.returns
returns c =
    rw (take_rest c.args.words.now (c.in_ok-end.end + 1)) (parted c.args.words.now c.in_ok-end.end (sym c.first_zero.ensures.place ∙ c.in_ok-end.was))
