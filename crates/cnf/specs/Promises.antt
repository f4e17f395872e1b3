-- What the checks of a table mean, in the words of the subject.
use Rattle.std.specs.Prelude.{◌≡◌, ℕ, suc, ◌<◌, ◌≤◌, true, false, List, [], length, ℤ, Some, None, Ok, slice_index_or}
use Rattle.cnf.specs.Tables.{Legal, Assignment, satisfied, first_unsatisfied}
use Rattle.cnf.specs.Scans.{table_checked}

-- a table is accepted exactly when it is a sequence of non-empty clauses, each ended by 0, over the variables 1 to v, within the limits
pub record AcceptsLegalTables (v : ℕ) (ws : List ℤ) : Type 0 where
  pub only : (n : ℕ) → table_checked v ws ≡ Ok n → (l : Legal v ws) × (length l.clauses ≡ n)
  pub every : (l : Legal v ws) → table_checked v ws ≡ Ok (length l.clauses)

-- clause k, counted from 1, has no true literal, and every clause before it has one
pub record FirstBroken (a : Assignment) (cs : List (List ℤ)) (k : ℕ) : Type 0 where
  pub counted : (1 ≤ k) × (k ≤ length cs)
  pub broken : (j : ℕ) → suc j ≡ k → satisfied a (slice_index_or cs j []) ≡ false
  pub before : (j : ℕ) → suc j < k → satisfied a (slice_index_or cs j []) ≡ true

abbrev pub AllSatisfied : Assignment → List (List ℤ) → Type 0
AllSatisfied a cs = (j : ℕ) → j < length cs → satisfied a (slice_index_or cs j []) ≡ true

-- none exactly when every clause has a true literal; k exactly when clause k is the first that has none
pub record NamesFirstBroken (a : Assignment) (cs : List (List ℤ)) : Type 0 where
  pub none_only : first_unsatisfied a 1 cs ≡ None → AllSatisfied a cs
  pub none_every : AllSatisfied a cs → first_unsatisfied a 1 cs ≡ None
  pub some_only : (k : ℕ) → first_unsatisfied a 1 cs ≡ Some k → FirstBroken a cs k
  pub some_every : (k : ℕ) → FirstBroken a cs k → first_unsatisfied a 1 cs ≡ Some k
