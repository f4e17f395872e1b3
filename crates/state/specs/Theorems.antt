-- What holds of every model, whatever its numbers.
use Rattle.std.specs.Prelude.{◌≡◌, ℕ, ◌<◌, ◌≤◌, false, cond, List, [], ◌∷◌, length, ℤ, pos, ◌+ℤ◌, ◌-ℤ◌, ◌*ℤ◌, sum, ◌≢◌}
use Rattle.cnf.specs.Tables.{Assignment, satisfied}
use Rattle.formula.specs.Clauses.{names, flip_at}
use Rattle.state.specs.Model.{Model, assignment, stamp_of, cost, score, neighbours, changed, flipped, weighed, ticked, smoothed, begun, Paced}

-- there is a value and a stamp for each variable, and a weight for each clause
pub record Filled (m : Model) : Type 0 where
  pub values : length m.values ≡ m.variables
  pub stamps : length m.stamps ≡ m.variables
  pub weights : length m.weights ≡ length m.clauses

-- all that can be asked of the variable y is the same
pub record Alike (y : ℕ) (m n : Model) : Type 0 where
  pub value : assignment n y ≡ assignment m y
  pub score : score n y ≡ score m y
  pub stamp : stamp_of n y ≡ stamp_of m y
  pub mark : changed n y ≡ changed m y

-- a flip of x alters nothing that can be asked of a variable other than x and its neighbours
abbrev pub FlipStaysNear : Type 0
FlipStaysNear = (m : Model) (x y : ℕ) → Filled m → x < m.variables → (y ≢ x) → neighbours m x y ≡ false → Alike y m (flipped x m)

-- 1 where the clause is unsatisfied
abbrev pub failing : Assignment → List ℤ → ℤ
failing a c = cond (satisfied a c) (pos 0) (pos 1)

-- the sum over the clauses that name x of the weight times what a flip of x changes
abbrev pub shares : Assignment → ℕ → List (List ℤ) → List ℕ → ℤ
shares a x [] ws = pos 0
shares a x (c ∷ cs) [] = pos 0
shares a x (c ∷ cs) (w ∷ ws) = cond (names c x) (pos w *ℤ (failing a c -ℤ failing (flip_at x a) c)) (pos 0) +ℤ shares a x cs ws

abbrev pub ScoreByClauses : Type 0
ScoreByClauses = (m : Model) (x : ℕ) → score m x ≡ shares (assignment m) x m.clauses m.weights

-- the cost after a flip is the cost less the score
abbrev pub FlipPaysScore : Type 0
FlipPaysScore = (m : Model) (x : ℕ) → Filled m → x < m.variables → pos (cost (flipped x m)) ≡ pos (cost m) -ℤ score m x

-- a flip and the same flip again give the cost back
abbrev pub FlipUndone : Type 0
FlipUndone = (m : Model) (x : ℕ) → Filled m → x < m.variables → cost (flipped x (flipped x m)) ≡ cost m

abbrev pub SmoothingNeverRaises : Type 0
SmoothingNeverRaises = (v : ℕ) (ws : List ℕ) → sum (smoothed v ws) ≤ sum ws

-- the sum of the weights is at most the clauses times one more than the ticks, however a search goes on:
-- it is so at the start; a flip and a tick keep it so; a weighing adds at most the number of clauses, so that it is so again when a tick has passed
pub record Pace : Type 0 where
  pub start : (v : ℕ) (cs : List (List ℤ)) (values : List ℕ) → Paced (begun v cs values)
  pub flip : (m : Model) (x : ℕ) → Paced m → Paced (flipped x m)
  pub tick : (m : Model) → Paced m → Paced (ticked m)
  pub weighing : (m : Model) → Filled m → Paced m → Paced (ticked (weighed m))
  pub dive : (m : Model) (x : ℕ) → Filled m → Paced m → Paced (flipped x (weighed m))

-- whatever the calls do, each variable has a value and a stamp, and each clause a weight
pub record Filling : Type 0 where
  pub start : (v : ℕ) (cs : List (List ℤ)) (values : List ℕ) → length values ≡ v → Filled (begun v cs values)
  pub flip : (m : Model) (x : ℕ) → Filled m → Filled (flipped x m)
  pub tick : (m : Model) → Filled m → Filled (ticked m)
  pub weighing : (m : Model) → Filled m → Filled (weighed m)

pub record Laws : Type 0 where
  pub filling : Filling
  pub near : FlipStaysNear
  pub clauses : ScoreByClauses
  pub pays : FlipPaysScore
  pub undone : FlipUndone
  pub smoothing : SmoothingNeverRaises
  pub pace : Pace
