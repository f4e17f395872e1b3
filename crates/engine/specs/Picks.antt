-- Which variable goes first, in a greedy step and in a dive.
use Rattle.std.specs.Prelude.{ℕ, ◌<◌, Bool, cond, not, ◌&&◌, ◌||◌, List, length, Some, None, fold, Option, ◌==◌, int_lt, nat_lt}
use Rattle.formula.specs.Occurrences.{passing}
use Rattle.policy.specs.Levels.{Levels}
use Rattle.state.specs.Model.{Model, score, changed, total, stamp_of, variables_in}

-- the level that a policy gives the variable at the place x
abbrev pub level_of : Levels → Model → ℕ → ℕ
level_of f m x = f (score m x) (changed m x) (total m) (length m.clauses)

abbrev pub admits : Levels → Model → ℕ → Bool
admits f m x = nat_lt 0 (level_of f m x)

-- a greater score, or the same and a lesser stamp
abbrev pub outranks : Model → ℕ → ℕ → Bool
outranks m x y = int_lt (score m y) (score m x) || (not (int_lt (score m x) (score m y)) && nat_lt (stamp_of m x) (stamp_of m y))

-- a lesser level, or the same and a better rank
abbrev pub goes_before : Levels → Model → ℕ → ℕ → Bool
goes_before f m x y = nat_lt (level_of f m x) (level_of f m y) || (level_of f m x == level_of f m y && outranks m x y)

-- the best so far, and the next candidate
abbrev pub challenged : (ℕ → ℕ → Bool) → Option ℕ → ℕ → Option ℕ
challenged before None x = Some x
challenged before (Some b) x = Some (cond (before x b) x b)

-- the first of the candidates; of two that tie, the one that comes first in the list
abbrev pub best_of : (ℕ → ℕ → Bool) → List ℕ → Option ℕ
best_of before xs = fold (challenged before) None xs

-- the variable that a greedy step flips, or none
abbrev pub pick : Levels → Model → Option ℕ
pick f m = best_of (goes_before f m) (passing (admits f m) m.variables)

-- the variable that a dive flips in the clause at the place i
abbrev pub dive_pick : Model → ℕ → Option ℕ
dive_pick m i = best_of (outranks m) (variables_in m i)

-- what is picked is one of the first n variables
abbrev pub Within : Option ℕ → ℕ → Type 0
Within None n = Unit {0}
Within (Some x) n = x < n
