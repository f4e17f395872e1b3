use Rattle.std.proofs.Common.{◌≡◌, get_or, pos, Err, sym, ap, ◌∙◌, arith, w32, SFits, rules}
use Rattle.std.proofs.lemmas.Grind.{common_steps}
use Rattle.std.proofs.lemmas.Result.{err_from_is_err_and}
use Rattle.std.proofs.lemmas.Int.{to_z-of_z}
use Rattle.cnf.specs.Scans.{tallied, placed}
use Rattle.cnf.proofs.Legal.{accepts_legal_tables}
use Rattle.cnf.proofs.Steps.{tally_stops, table_by}
use Rattle.cnf.proofs.table.check_table.Goals as goal

pub returns-in_err-tally-clause-value : goal.returns-in_err-tally-clause-value
returns-in_err-tally-clause-value c =
    let p = err_from_is_err_and c.from_residual.result c.from_residual.ensures.1 in
    let told : placed c.word.result c.loop-i.i-counter ≡ Err c.in_err-tally.field-0.0 = grind (arith, common_steps) in
    let f : SFits w32 (get_or c.args.words.now c.loop-i.i-counter (pos 0)) = search rules in
    let e = tally_stops c.args.variables c.loop-i.tally c.args.words.now c.loop-i.i-counter c.loop-i-test.true c.in_err-tally.field-0.0
    (ap (λ r. placed r c.loop-i.i-counter) (sym (c.word.ensures ∙ ap (tallied c.args.variables c.loop-i.tally) (to_z-of_z w32 _ f))) ∙ told) in
    let t = table_by c.args.variables c.args.words.now (omega arith) (omega arith) _ (sym c.loop-i.invariant ∙ e) in
    p.1 ∙ ap Err p.2 ∙ sym t

pub returns-in_err-tally-clause-accepts : goal.returns-in_err-tally-clause-accepts
returns-in_err-tally-clause-accepts c = accepts_legal_tables c.args.variables c.args.words.now

pub returns-clause-accepts : goal.returns-clause-accepts
returns-clause-accepts c = accepts_legal_tables c.args.variables c.args.words.now
