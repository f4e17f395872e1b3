use Rattle.std.proofs.Common.{ℕ, ◌<◌, length, get_or, map, List, sym, ap, ◌∙◌, subst, arith}
use Rattle.formula.specs.declared.entry.Entry.{Entry}
use Rattle.formula.specs.Entries.{entry0}
use Rattle.formula.specs.Formulas.{clause_count}
use Rattle.state.proofs.Facts.{keeps}
use Rattle.state.proofs.Asks.{names_below}
use Rattle.state.proofs.Models.{variables_are}
use Rattle.state.proofs.search.Search.entries.Goals as goal

pub entries_of-requires : goal.entries_of-requires
entries_of-requires c = omega (arith, (keeps c.args.self.now).holds.clauses, c.requires)

pub returns : goal.returns
returns c =
    let s = c.args.self.now in
    let k = keeps s in
    let l : c.args.clause < clause_count s.formula = omega (arith, k.holds.clauses, c.requires) in
    record {
      variables = ap (map (λ (e : Entry). e.variable)) c.entries_of.ensures ∙ sym (variables_are s.given s.formula s.occurrences s.table k c.args.clause l);
      below = subst (λ (es : List Entry). (j : ℕ) → j < length es → (get_or es j entry0).variable < s.formula.variables) (sym c.entries_of.ensures) (names_below s.given s.formula s.occurrences s.table k c.args.clause l);
    }
