-- What a formula holds.
use Rattle.std.specs.Prelude.{◌≡◌, ℕ, ◌+◌, ◌<◌, ◌≤◌, List, [], length, ℤ, slice_index_or}
use Rattle.std.specs.List.{AllByRecursion}
use Rattle.cnf.specs.Tables.{Clause}
use Rattle.formula.specs.declared.entry.Entry.{Entry}
use Rattle.formula.specs.declared.formula.Formula.{Formula}
use Rattle.formula.specs.declared.given.Given.{Given}
use Rattle.formula.specs.Entries.{entries_to}
use Rattle.formula.specs.Made.{entries_in}

-- the number of clauses
abbrev pub clause_count : Formula → ℕ
clause_count f = length f.spans.items

-- the number of entries of all clauses
abbrev pub entry_count : Formula → ℕ
entry_count f = length f.entries.items

-- the entries of the clause i
abbrev pub entries_of : Formula → ℕ → List Entry
entries_of f i = entries_in f.spans.items f.entries.items i

-- the clause c is put behind the others
pub record Added (c : List ℤ) (f g : Formula) : Type 0 where
  pub same_variables : g.variables ≡ f.variables
  pub one_more : clause_count g ≡ clause_count f + 1
  pub same_entries : (i : ℕ) → i < clause_count f → entries_of g i ≡ entries_of f i
  pub new_entries : entries_of g (clause_count f) ≡ entries_to c f.variables
  pub room : entry_count g ≤ entry_count f + length c

-- the formula is of these clauses over v variables
pub record Holds (v : ℕ) (cs : List (List ℤ)) (f : Formula) : Type 0 where
  pub variables : f.variables ≡ v
  pub clauses : clause_count f ≡ length cs
  pub entries : (i : ℕ) → i < length cs → entries_of f i ≡ entries_to (slice_index_or cs i []) v
  pub each : AllByRecursion (Clause v) cs

-- the words as they were given
abbrev pub words_of : Given → List ℤ
words_of g = g.words.items
