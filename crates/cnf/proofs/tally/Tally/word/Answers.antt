use Rattle.std.proofs.Common.{sym, ap, ◌∙◌, w32}
use Rattle.std.proofs.lemmas.Int.{to_z-of_z}
use Rattle.std.proofs.lemmas.Bool.{cond-true, cond-false}
use Rattle.cnf.specs.Scans.{tallied_literal}
use Rattle.cnf.proofs.Words.{zero_is, other_is}
use Rattle.cnf.proofs.tally.Tally.word.Goals as goal

pub returns-then-word-eq0 : goal.returns-then-word-eq0
returns-then-word-eq0 c = c.end.ensures ∙ sym (cond-true _ _ _ (zero_is c.args.word c.ranges.word c.if-word-eq0.true))

pub returns-else-word-eq0 : goal.returns-else-word-eq0
returns-else-word-eq0 c =
    c.literal.ensures
    ∙ ap (tallied_literal c.args.variables c.args.self) (to_z-of_z w32 c.args.word c.ranges.word)
    ∙ sym (cond-false _ _ _ (other_is c.args.word c.if-word-eq0.false))
