-- For each variable the clauses that name it.
use Rattle.std.specs.Prelude.{◌≡◌, ℕ, zero, suc, ◌<◌, Bool, cond, List, [], ◌∷◌, ◌++◌, length}
use Rattle.formula.specs.declared.formula.Formula.{Formula}
use Rattle.formula.specs.declared.occurrences.Occurrences.{Occurrences}
use Rattle.formula.specs.Entries.{named_in}
use Rattle.formula.specs.Formulas.{clause_count, entries_of}
use Rattle.formula.specs.Spans.{part_of, span_in}

-- the numbers below n that pass, rising
abbrev pub passing : (ℕ → Bool) → ℕ → List ℕ
passing p zero = []
passing p (suc n) = passing p n ++ cond (p n) (n ∷ []) []

-- the clause i names the variable x
abbrev pub names_at : Formula → ℕ → ℕ → Bool
names_at f x i = named_in (entries_of f i) x

-- how many places the lists take in all
abbrev pub listed : Occurrences → ℕ
listed o = length o.clauses.items

-- the clauses in which the variable x occurs
abbrev pub occurring_in : Occurrences → ℕ → List ℕ
occurring_in o x = part_of (span_in o.spans x) o.clauses.items

-- the lists of the first n variables
pub record OccursTo (f : Formula) (n : ℕ) (o : Occurrences) : Type 0 where
  pub lists : (x : ℕ) → x < n → occurring_in o x ≡ passing (names_at f x) (clause_count f)

-- each variable's list has the clauses that name it
abbrev pub Occurs : Formula → Occurrences → Type 0
Occurs f o = OccursTo f f.variables o
