-- Examples that were worked out by hand, computed from the definitions.
use Rattle.std.specs.Prelude.{◌≡◌, true, false, [], ◌∷◌, map, ℕ, ℤ, pos, negsuc, replicate}
use Rattle.policy.specs.Policies.{cca}
use Rattle.policy.specs.Generators.{generator, holding}
use Rattle.policy.specs.Sources.{drawn}
use Rattle.policy.specs.declared.generator.Generator.{Generator}
use Rattle.state.specs.Model.{Model, cost, score, changed, loaded, smoothed}
use Rattle.engine.specs.declared.answers.Move.{Move}
use Rattle.engine.specs.declared.answers.Stepped.TheVariants.{Found, Moved}
use Rattle.engine.specs.declared.answers.Outcome.TheVariants as outcome
use Rattle.engine.specs.Steps.{After, stepped, offer, left, run, counts}

-- two tables, each with every variable at 0
abbrev pub table_a : Model
table_a = loaded 3 (pos 1 ∷ pos 2 ∷ pos 0 ∷ negsuc 0 ∷ pos 3 ∷ pos 0 ∷ negsuc 1 ∷ negsuc 2 ∷ pos 0 ∷ []) (0 ∷ 0 ∷ 0 ∷ [])

abbrev pub table_b : Model
table_b = loaded 2 (pos 1 ∷ pos 1 ∷ pos 0 ∷ negsuc 0 ∷ pos 2 ∷ pos 0 ∷ negsuc 0 ∷ negsuc 1 ∷ pos 0 ∷ []) (0 ∷ 0 ∷ [])

abbrev pub tautology : Model
tautology = loaded 1 (pos 1 ∷ negsuc 0 ∷ pos 0 ∷ []) (0 ∷ [])

abbrev pub seed : Generator
seed = holding 1

abbrev pub move : ℕ → ℕ → ℤ → ℕ → Move
move mode x z c = record { mode = mode; variable = x; score = z; cost = c }

-- a step by cca with the generator, and what the generator holds then
abbrev pub step_from : Model → Generator → After
step_from m s = stepped cca (offer generator s) m

abbrev pub after : Model → Generator → Generator
after m s = left generator (step_from m s).answer s

abbrev pub one_b : After
one_b = step_from table_b seed

abbrev pub two_b : After
two_b = step_from one_b.model (after table_b seed)

abbrev pub three_b : After
three_b = step_from two_b.model (after one_b.model (after table_b seed))

pub record Worked : Type 0 where
  pub scores_A : (map (score table_a) (0 ∷ 1 ∷ 2 ∷ []) ≡ pos 0 ∷ pos 1 ∷ pos 0 ∷ []) × (cost table_a ≡ 1)
  pub step_A : ((step_from table_a seed).answer ≡ Moved (move 1 2 (pos 1) 0)) × ((step_from (step_from table_a seed).model seed).answer ≡ Found)
  pub scores_B : (map (score table_b) (0 ∷ 1 ∷ []) ≡ pos 0 ∷ pos 0 ∷ []) × (map (changed table_b) (0 ∷ 1 ∷ []) ≡ true ∷ true ∷ []) × (cost table_b ≡ 1)
  pub one_B : one_b.answer ≡ Moved (move 0 1 (pos 1) 1)
  pub two_B : two_b.answer ≡ Moved (move 0 2 (pos 1) 1)
  pub three_B : (three_b.answer ≡ Moved (move 0 1 (pos 0) 2)) × (three_b.model.weights ≡ 2 ∷ 2 ∷ 2 ∷ []) × (map (changed three_b.model) (0 ∷ 1 ∷ []) ≡ false ∷ true ∷ [])
  pub no_steps : counts (run cca generator 0 tautology seed) ≡ (outcome.Found, 0, 0)
  pub smooths : (smoothed 3 (300 ∷ 300 ∷ 301 ∷ []) ≡ 90 ∷ 90 ∷ 90 ∷ []) × (smoothed 3 (300 ∷ 300 ∷ 300 ∷ []) ≡ 300 ∷ 300 ∷ 300 ∷ [])
  pub smooths_alike : smoothed 1 (replicate 16 301) ≡ replicate 16 300
  pub smooths_away : smoothed 3 (3 ∷ 3 ∷ 895 ∷ []) ≡ 0 ∷ 0 ∷ 268 ∷ []
  pub numbers : drawn generator 3 seed ≡ 16807 ∷ 282475249 ∷ 1622650073 ∷ []
