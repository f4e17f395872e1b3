-- Tables of rules. The word k is the literal of variable k, −k is its negation, and 0 ends a clause.
use Rattle.std.specs.Prelude.{◌≡◌, ℕ, zero, suc, ◌+◌, ◌<◌, ◌≤◌, Bool, true, false, cond, not, ◌||◌, List, [], ◌∷◌, ◌++◌, length, ℤ, pos, negsuc, Some, None, Option, ◌==◌, slice_index, unsigned_abs}
use Rattle.std.specs.List.{AllByRecursion}

abbrev pub is_zero : ℤ → Bool
is_zero (pos zero) = true
is_zero (pos (suc n)) = false
is_zero (negsuc n) = false

-- a literal of one of the variables 1 to v
abbrev pub Literal : ℕ → ℤ → Type 0
Literal v w = (1 ≤ unsigned_abs w) × (unsigned_abs w ≤ v)

abbrev pub Clause : ℕ → List ℤ → Type 0
Clause v c = (0 < length c) × AllByRecursion (Literal v) c

-- the words of clauses, each ended by 0
abbrev pub spelled : List (List ℤ) → List ℤ
spelled [] = []
spelled (c ∷ cs) = c ++ (pos 0 ∷ spelled cs)

-- the number of literals, repeats counted
abbrev pub literals_in : List (List ℤ) → ℕ
literals_in [] = 0
literals_in (c ∷ cs) = length c + literals_in cs

-- the words are those of a table over v variables, within the limits
pub record Legal (v : ℕ) (ws : List ℤ) : Type 0 where
  pub variables : (1 ≤ v) × (v ≤ 256)
  pub clauses : List (List ℤ)
  pub words : ws ≡ spelled clauses
  pub each : AllByRecursion (Clause v) clauses
  pub number : (1 ≤ length clauses) × (length clauses ≤ 1024)
  pub literals : literals_in clauses ≤ 4096

-- one literal more in front of the first clause
abbrev pub onto : ℤ → List (List ℤ) → List (List ℤ)
onto w [] = []
onto w (c ∷ cs) = (w ∷ c) ∷ cs

-- the clauses that the words spell
abbrev pub clauses_of : List ℤ → List (List ℤ)
clauses_of [] = []
clauses_of (w ∷ ws) = cond (is_zero w) ([] ∷ clauses_of ws) (onto w (clauses_of ws))

-- the first clause that the words spell is c, and the words ds are behind it
pub record Parted (ws c ds : List ℤ) : Type 0 where
  pub clauses : clauses_of ws ≡ c ∷ clauses_of ds
  pub shorter : length ds < length ws

-- an assignment gives a value to each variable; variable k has the place k − 1
abbrev pub Assignment : Type 0
Assignment = ℕ → Bool

-- the byte 1 is true
abbrev pub values_of : List ℕ → Assignment
values_of start x = slice_index start x == 1

abbrev pub holds : Assignment → ℤ → Bool
holds a (pos zero) = false
holds a (pos (suc x)) = a x
holds a (negsuc x) = not (a x)

-- some literal is true
abbrev pub satisfied : Assignment → List ℤ → Bool
satisfied a [] = false
satisfied a (w ∷ ws) = holds a w || satisfied a ws

-- the number of the first clause that is not satisfied, the first of them being n
abbrev pub first_unsatisfied : Assignment → ℕ → List (List ℤ) → Option ℕ
first_unsatisfied a n [] = None
first_unsatisfied a n (c ∷ cs) = cond (satisfied a c) (first_unsatisfied a (n + 1) cs) (Some n)
