-- What calls give: a formula, an assignment, weights, stamps and the tick; and what follows from these.
-- Variables and clauses go by their places: variable k and clause k have the place k − 1.
use Rattle.std.specs.Prelude.{ℕ, ◌+◌, ◌*◌, ◌≤◌, Bool, false, cond, not, ◌&&◌, ◌||◌, List, [], ◌∷◌, map, length, replicate, ℤ, pos, ◌-ℤ◌, sum, ◌==◌, nat_eq, nat_lt, slice_index, slice_index_or, slice_set}
use Rattle.cnf.specs.Tables.{Assignment, satisfied, clauses_of}
use Rattle.formula.specs.Clauses.{names, flip_at, any_to}
use Rattle.formula.specs.Occurrences.{passing}
use Rattle.table.specs.Weights.{heavy, share_of, eased}

pub record Model : Type 0 where
  pub variables : ℕ
  pub clauses : List (List ℤ)
  pub values : List Bool
  pub weights : List ℕ
  pub stamps : List ℕ
  pub tick : ℕ

abbrev pub assignment : Model → Assignment
assignment m x = slice_index_or m.values x false

abbrev pub stamp_of : Model → ℕ → ℕ
stamp_of m x = slice_index m.stamps x

abbrev pub weight_of : Model → ℕ → ℕ
weight_of m i = slice_index m.weights i

abbrev pub clause_of : Model → ℕ → List ℤ
clause_of m i = slice_index_or m.clauses i []

-- the sum of the weights of the unsatisfied clauses
abbrev pub cost_at : Assignment → List (List ℤ) → List ℕ → ℕ
cost_at a [] ws = 0
cost_at a (c ∷ cs) [] = 0
cost_at a (c ∷ cs) (w ∷ ws) = cond (satisfied a c) 0 w + cost_at a cs ws

abbrev pub cost : Model → ℕ
cost m = cost_at (assignment m) m.clauses m.weights

-- the cost now less the cost with only x flipped
abbrev pub score : Model → ℕ → ℤ
score m x = pos (cost m) -ℤ pos (cost_at (flip_at x (assignment m)) m.clauses m.weights)

-- the sum of all weights
abbrev pub total : Model → ℕ
total m = sum m.weights

-- some clause names both
abbrev pub together : List (List ℤ) → ℕ → ℕ → Bool
together [] x y = false
together (c ∷ cs) x y = (names c x && names c y) || together cs x y

abbrev pub neighbours : Model → ℕ → ℕ → Bool
neighbours m x y = not (x == y) && together m.clauses x y

-- the stamp is 0, or a neighbour's stamp is greater
abbrev pub changed : Model → ℕ → Bool
changed m x = stamp_of m x == 0 || any_to m.variables (λ y. neighbours m x y && nat_lt (stamp_of m x) (stamp_of m y))

-- the places of the unsatisfied clauses, rising, the first clause having the place n
abbrev pub unsatisfied_from : Assignment → ℕ → List (List ℤ) → List ℕ
unsatisfied_from a n [] = []
unsatisfied_from a n (c ∷ cs) = cond (satisfied a c) (unsatisfied_from a (n + 1) cs) (n ∷ unsatisfied_from a (n + 1) cs)

abbrev pub unsatisfied : Model → List ℕ
unsatisfied m = unsatisfied_from (assignment m) 0 m.clauses

-- the variables that a clause names, rising, each once
abbrev pub variables_in : Model → ℕ → List ℕ
variables_in m i = passing (names (clause_of m i)) m.variables

-- x has the other value, and its stamp is the next tick
abbrev pub flipped : ℕ → Model → Model
flipped x m =
    record {
      variables = m.variables;
      clauses = m.clauses;
      values = slice_set m.values x (not (assignment m x));
      weights = m.weights;
      stamps = slice_set m.stamps x (m.tick + 1);
      tick = m.tick + 1;
    }

-- each unsatisfied clause gains weight 1
abbrev pub gained_by : Assignment → List (List ℤ) → List ℕ → List ℕ
gained_by a [] ws = []
gained_by a (c ∷ cs) [] = []
gained_by a (c ∷ cs) (w ∷ ws) = cond (satisfied a c) w (w + 1) ∷ gained_by a cs ws

-- the weights, smoothed if they are more than 300 on average
abbrev pub smoothed : ℕ → List ℕ → List ℕ
smoothed v ws = cond (heavy (length ws) (sum ws)) (map (λ w. eased (share_of v (length ws) (sum ws)) w) ws) ws

abbrev pub weighed : Model → Model
weighed m =
    record {
      variables = m.variables;
      clauses = m.clauses;
      values = m.values;
      weights = smoothed m.variables (gained_by (assignment m) m.clauses m.weights);
      stamps = m.stamps;
      tick = m.tick;
    }

-- a tick passes
abbrev pub ticked : Model → Model
ticked m =
    record {
      variables = m.variables;
      clauses = m.clauses;
      values = m.values;
      weights = m.weights;
      stamps = m.stamps;
      tick = m.tick + 1;
    }

-- a search begins: all weights 1, no stamp, the start as the assignment
abbrev pub begun : ℕ → List (List ℤ) → List ℕ → Model
begun v cs start =
    record {
      variables = v;
      clauses = cs;
      values = map (λ b. nat_eq b 1) start;
      weights = replicate (length cs) 1;
      stamps = replicate v 0;
      tick = 0;
    }

abbrev pub loaded : ℕ → List ℤ → List ℕ → Model
loaded v words start = begun v (clauses_of words) start

abbrev pub restarted : Model → List ℕ → Model
restarted m start = begun m.variables m.clauses start

-- every weighing has had its tick
abbrev pub Paced : Model → Type 0
Paced m = total m ≤ length m.clauses * (1 + m.tick)
