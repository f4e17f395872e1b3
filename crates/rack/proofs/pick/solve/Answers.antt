use Rattle.std.proofs.Common.{length, sym, subst}
use Rattle.rack.proofs.Answers.{Within, printed-within}
use Rattle.rack.proofs.pick.solve.Goals as goal

pub returns-clause-fits : goal.returns-clause-fits
returns-clause-fits c =
    subst (Within (length c.args.out.now)) (sym c.print.ensures.text)
    (printed-within c.in_ok-effort.effort.steps c.in_ok-effort.effort.dives c.args.variables c.args.words.now c.play.new.values c.args.out.now)
