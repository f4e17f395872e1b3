use Rattle.std.proofs.Common.{eqb, length, sym, ap, ◌∙◌, arith}
use Rattle.formula.specs.Occurrences.{passing}
use Rattle.table.specs.Rows.{count_at}
use Rattle.state.proofs.Facts.{keeps}
use Rattle.state.proofs.Models.{unsatisfied_is}
use Rattle.state.proofs.search.Search.unsatisfied_count.Goals as goal

pub unsatisfied_count-requires : goal.unsatisfied_count-requires
unsatisfied_count-requires c = omega (arith, c.args.self.now.formula.made.few_clauses, c.clauses.ensures)

pub returns : goal.returns
returns c =
    let s = c.args.self.now in
    c.unsatisfied_count.ensures
    ∙ ap (λ n. length (passing (λ k. eqb (count_at s.table k) 0) n)) c.clauses.ensures
    ∙ sym (ap length (unsatisfied_is s.given s.formula s.occurrences s.table (keeps s)))
