-- What a search keeps, and the model that it stands for.
use Rattle.std.specs.Prelude.{◌<◌, ◌≤◌, map, take}
use Rattle.cnf.specs.Tables.{clauses_of}
use Rattle.formula.specs.declared.formula.Formula.{Formula}
use Rattle.formula.specs.declared.given.Given.{Given}
use Rattle.formula.specs.declared.occurrences.Occurrences.{Occurrences}
use Rattle.formula.specs.Formulas.{clause_count, Holds, words_of}
use Rattle.formula.specs.Occurrences.{Occurs}
use Rattle.table.specs.declared.table.Row.{Row}
use Rattle.table.specs.declared.table.ClauseRow.{ClauseRow}
use Rattle.table.specs.declared.table.Table.{Table}
use Rattle.state.specs.Model.{Model}
use Rattle.table.specs.Sound.{Sound}

-- the formula as it was given, and the rows of its variables and clauses
abbrev pub model_in : Given → Formula → Table → Model
model_in g f t =
    record {
      variables = f.variables;
      clauses = clauses_of (words_of g);
      values = map (λ (r : Row). r.value) (take f.variables t.rows);
      weights = map (λ (r : ClauseRow). r.weight) (take (clause_count f) t.clauses);
      stamps = map (λ (r : Row). r.stamp) (take f.variables t.rows);
      tick = t.tick;
    }

-- there is a variable and a clause, the entries and lists are those of the words, every number equals its definition, and none is near the limit of its type
pub record Kept (g : Given) (f : Formula) (o : Occurrences) (t : Table) : Type 0 where
  pub some : (0 < f.variables) × (0 < (clause_count f))
  pub holds : Holds f.variables (clauses_of (words_of g)) f
  pub occurs : Occurs f o
  pub sound : Sound f t
  pub limited : t.total ≤ 1024001024
  pub ticks : t.tick ≤ 1000000
