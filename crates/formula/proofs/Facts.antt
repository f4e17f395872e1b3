-- What is said of formulas and lists are facts: each can hold in one way only.
use Rattle.std.proofs.Common.{◌≡◌, ℕ, ◌<◌, Bool, List, [], ◌∷◌, length, get_or, ℤ}
use std.HLevel.{Π_prop}
use base.Stored.{Coded, coded_ℕ, coded_bool, coded×, coded_via}
use denote.Struct.Props.{props}
use Rattle.std.specs.List.{AllByRecursion}
use Rattle.cnf.specs.Tables.{Literal, Clause}
use Rattle.formula.specs.declared.entry.Entry.{Entry}
use Rattle.formula.specs.declared.formula.Formula.{Formula}
use Rattle.formula.specs.declared.occurrences.Occurrences.{Occurrences}
use Rattle.formula.specs.Entries.{entries_to}
use Rattle.formula.specs.Formulas.{Holds, clause_count, entries_of}
use Rattle.formula.specs.Occurrences.{OccursTo, passing, names_at, occurring_in}

abbrev parts : Entry → ℕ × (Bool × Bool)
parts e = (e.variable, (e.plain, e.negated))

entry_coded : Coded Entry
entry_coded = coded_via (coded× coded_ℕ (coded× coded_bool coded_bool)) parts (λ x y e. λ i. record { variable = (e i).0; plain = (e i).1.0; negated = (e i).1.1 })

pub all_prop : {X : Type 0} (P : X → Type 0) → ((x : X) → IsProp (P x)) → (xs : List X) → IsProp (AllByRecursion P xs)
all_prop P h [] = hlevel props
all_prop P h (x ∷ xs) = let k = all_prop P h xs in let j = h x in hlevel (props, j, k)

pub clause_prop : (v : ℕ) (c : List ℤ) → IsProp (Clause v c)
clause_prop v c = let h = all_prop (Literal v) (λ w. hlevel props) c in hlevel (props, h)

pub holds_prop : (v : ℕ) (cs : List (List ℤ)) (f : Formula) → IsProp (Holds v cs f)
holds_prop v cs f p q =
    let h : (m n : ℕ) → IsProp (m ≡ n) = hlevel props in
    let k : (xs ys : List Entry) → IsProp (xs ≡ ys) = hlevel (props, entry_coded) in
    λ i.
    record {
      variables = h _ _ p.variables q.variables i;
      clauses = h _ _ p.clauses q.clauses i;
      entries = Π_prop (λ j. Π_prop (λ (_ : j < length cs). k (entries_of f j) (entries_to (get_or cs j []) v))) p.entries q.entries i;
      each = all_prop (Clause v) (clause_prop v) cs p.each q.each i;
    }

pub occurs_prop : (f : Formula) (n : ℕ) (o : Occurrences) → IsProp (OccursTo f n o)
occurs_prop f n o p q =
    let lists-prop : IsProp ((x : ℕ) → x < n → occurring_in o x ≡ passing (names_at f x) (clause_count f)) = hlevel props in
    λ i. record { lists = lists-prop p.lists q.lists i }
