-- The entries of a clause mean what its words mean.
use Rattle.std.specs.Prelude.{◌≡◌, ℕ, not, List, map, ℤ, ◌==◌}
use Rattle.std.specs.List.{AllByRecursion}
use Rattle.cnf.specs.Tables.{Assignment, Literal, satisfied}
use Rattle.formula.specs.declared.entry.Entry.{Entry}
use Rattle.formula.specs.Clauses.{names}
use Rattle.formula.specs.Entries.{count, named_in, entries_to}
use Rattle.formula.specs.Occurrences.{passing}

-- a clause is satisfied where its true count is not 0, and has one entry for each variable that it names, by rising variable
pub record Same (v : ℕ) (c : List ℤ) : Type 0 where
  pub satisfies : (a : Assignment) → satisfied a c ≡ not (count a (entries_to c v) == 0)
  pub named : (x : ℕ) → named_in (entries_to c v) x ≡ names c x
  pub variables : map (λ (e : Entry). e.variable) (entries_to c v) ≡ passing (names c) v

abbrev pub SameMeaning : Type 0
SameMeaning = (v : ℕ) (c : List ℤ) → AllByRecursion (Literal v) c → Same v c
