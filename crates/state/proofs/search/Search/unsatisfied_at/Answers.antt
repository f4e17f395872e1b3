use Rattle.std.proofs.Common.{eqb, ◌<◌, length, get_or, sym, ap, ◌∙◌, subst, arith}
use Rattle.formula.specs.Occurrences.{passing}
use Rattle.table.specs.Rows.{count_at}
use Rattle.state.proofs.Facts.{keeps}
use Rattle.state.proofs.Models.{unsatisfied_is}
use Rattle.state.proofs.search.Search.unsatisfied_at.Goals as goal

pub unsatisfied_at-requires : goal.unsatisfied_at-requires
unsatisfied_at-requires c =
    let s = c.args.self.now in
    let e = unsatisfied_is s.given s.formula s.occurrences s.table (keeps s) ∙ sym (ap (passing (λ k. eqb (count_at s.table k) 0)) c.clauses.ensures) in
    record { few = omega (arith, s.formula.made.few_clauses, c.clauses.ensures); inside = subst (λ xs. c.args.place < length xs) e c.requires }

pub returns : goal.returns
returns c =
    let s = c.args.self.now in
    let k = keeps s in
    let e = unsatisfied_is s.given s.formula s.occurrences s.table k ∙ sym (ap (passing (λ k. eqb (count_at s.table k) 0)) c.clauses.ensures) in
    record {
      is = c.unsatisfied_at.ensures.is ∙ sym (ap (λ xs. get_or xs c.args.place 0) e);
      below = omega (arith, c.unsatisfied_at.ensures.below, c.clauses.ensures, k.holds.clauses);
    }
