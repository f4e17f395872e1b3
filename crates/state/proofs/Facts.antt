-- What is said of a search is a fact: it can hold in one way only.
use Rattle.std.proofs.Common.{◌<◌}
use mathlib.Core.Logic.{∥∥₁_elim}
use native.Mathlib.Bridge.{le_prop}
use denote.Struct.Props.{props}
use Rattle.cnf.specs.Tables.{clauses_of}
use Rattle.formula.specs.declared.formula.Formula.{Formula}
use Rattle.formula.specs.declared.given.Given.{Given}
use Rattle.formula.specs.declared.occurrences.Occurrences.{Occurrences}
use Rattle.formula.specs.Formulas.{clause_count, words_of}
use Rattle.formula.proofs.Facts.{holds_prop, occurs_prop}
use Rattle.table.specs.declared.table.Table.{Table}
use Rattle.table.proofs.Facts.{sound_prop}
use Rattle.state.specs.declared.search.Search.{Search}
use Rattle.state.specs.Standing.{Kept}

kept_prop : (g : Given) (f : Formula) (o : Occurrences) (t : Table) → IsProp (Kept g f o t)
kept_prop g f o t p q =
    let h : IsProp ((0 < f.variables) × (0 < (clause_count f))) = hlevel props in
    λ i.
    record {
      some = h p.some q.some i;
      holds = holds_prop f.variables (clauses_of (words_of g)) f p.holds q.holds i;
      occurs = occurs_prop f f.variables o p.occurs q.occurs i;
      sound = sound_prop f t p.sound q.sound i;
      limited = le_prop p.limited q.limited i;
      ticks = le_prop p.ticks q.ticks i;
    }

-- what a search keeps
pub keeps : (s : Search) → Kept s.given s.formula s.occurrences s.table
keeps s = ∥∥₁_elim s.kept (kept_prop s.given s.formula s.occurrences s.table) (λ p. p)
