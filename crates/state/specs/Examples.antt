-- Worked examples, computed from the definitions.
use Rattle.std.specs.Prelude.{◌≡◌, true, [], ◌∷◌, replicate, pos, negsuc}
use Rattle.state.specs.Model.{Model, cost, score, changed, smoothed, loaded, neighbours, unsatisfied, flipped}

-- 1 2 0 -1 3 0 -2 -3 0 over 3 variables, all off
abbrev pub A : Model
A = loaded 3 (pos 1 ∷ pos 2 ∷ pos 0 ∷ negsuc 0 ∷ pos 3 ∷ pos 0 ∷ negsuc 1 ∷ negsuc 2 ∷ pos 0 ∷ []) (0 ∷ 0 ∷ 0 ∷ [])

-- 1 -1 2 0 over 2 variables, all off
abbrev pub C : Model
C = loaded 2 (pos 1 ∷ negsuc 0 ∷ pos 2 ∷ pos 0 ∷ []) (0 ∷ 0 ∷ [])

-- 1 1 0 -1 2 0 -1 -2 0 over 2 variables, all off
abbrev pub B : Model
B = loaded 2 (pos 1 ∷ pos 1 ∷ pos 0 ∷ negsuc 0 ∷ pos 2 ∷ pos 0 ∷ negsuc 0 ∷ negsuc 1 ∷ pos 0 ∷ []) (0 ∷ 0 ∷ [])

pub record Worked : Type 0 where
  pub scores_A : (score A 0 ≡ pos 0) × (score A 1 ≡ pos 1) × (score A 2 ≡ pos 0)
  pub cost-A : cost A ≡ 1
  pub unsatisfied-A : unsatisfied A ≡ 0 ∷ []
  pub scores_B : (score B 0 ≡ pos 0) × (score B 1 ≡ pos 0)
  pub changed-B : (changed B 0 ≡ true) × (changed B 1 ≡ true)
  pub cost-B : cost B ≡ 1
  -- a clause with both signs of a variable is satisfied whatever its values, and its variables are neighbours
  pub both_signs : (cost C ≡ 0) × (cost (flipped 0 C) ≡ 0) × (neighbours C 0 1 ≡ true)
  -- 901 in three clauses is more than 300 on average, and 900 is not
  pub smoothed_3 : smoothed 3 (300 ∷ 300 ∷ 301 ∷ []) ≡ 90 ∷ 90 ∷ 90 ∷ []
  pub kept_3 : smoothed 3 (300 ∷ 300 ∷ 300 ∷ []) ≡ 300 ∷ 300 ∷ 300 ∷ []
  -- more than 15 clauses for each variable: the sum is shared out
  pub smoothed_16 : smoothed 1 (replicate 16 301) ≡ replicate 16 300
  -- a light clause among heavy ones can lose its weight
  pub light : smoothed 2 (3 ∷ 1000 ∷ []) ≡ 0 ∷ 300 ∷ []
