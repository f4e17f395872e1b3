use Rattle.std.proofs.Common.{Err, ap, sym, ◌∙◌, arith}
use Rattle.cnf.proofs.Steps.{found_bad, bytes_found, start_sized}
use Rattle.cnf.proofs.table.check_start.Goals as goal

pub returns-in-Some : goal.returns-in-Some
returns-in-Some c =
    ap Err c.at-in-Some.ensures
    ∙ ap found_bad (sym c.in-Some.is ∙ c.first_bad.ensures)
    ∙ bytes_found 0 c.args.start.now
    ∙ start_sized c.args.variables c.args.start.now (omega arith)

pub returns-in-None : goal.returns-in-None
returns-in-None c =
    ap found_bad (sym c.in-None.is ∙ c.first_bad.ensures) ∙ bytes_found 0 c.args.start.now ∙ start_sized c.args.variables c.args.start.now (omega arith)
