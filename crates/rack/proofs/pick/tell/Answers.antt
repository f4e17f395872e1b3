use Rattle.std.proofs.Common.{◌≤◌, length, sym, ap, ◌∙◌, subst}
use Rattle.rack.specs.Answers.{count_of}
use Rattle.rack.proofs.Answers.{Within, line_within, counted, counted_within}
use Rattle.rack.proofs.pick.tell.Goals as goal

pub returns : goal.returns
returns c =
    let n = length c.args.out.now in
    let h = subst (Within n) (sym c.refused_line.ensures) (line_within c.args.refusal c.args.out.now) in
    record {
      line = ap (λ k. (k, c.refused_line.new.out)) c.unwrap_or.ensures ∙ counted c.refused_line.result c.refused_line.new.out ∙ ap count_of c.refused_line.ensures;
      within = subst (λ k. k ≤ n) (sym c.unwrap_or.ensures) (counted_within n c.refused_line.result c.refused_line.new.out h);
    }
