-- What a step and a run do. A step is given a level function, and what its source offers: a number, or none.
use Rattle.std.specs.Prelude.{ℕ, zero, suc, ◌+◌, ◌%◌, Bool, false, cond, List, [], ◌∷◌, ◌++◌, length, drop, Some, None, count_by, Option, ◌==◌, slice_index}
use Rattle.std.specs.Option.{unwrap_or}
use Rattle.policy.specs.Levels.{Levels}
use Rattle.policy.specs.Sources.{Meaning}
use Rattle.state.specs.Model.{Model, cost, score, unsatisfied, flipped, weighed}
use Rattle.engine.specs.declared.answers.Move.{Move}
use Rattle.engine.specs.declared.answers.Stepped.{Stepped}
use Rattle.engine.specs.declared.answers.Stepped.TheVariants as step
use Rattle.engine.specs.declared.answers.Outcome.{Outcome}
use Rattle.engine.specs.declared.answers.Outcome.TheVariants as outcome
use Rattle.engine.specs.Picks.{level_of, pick, dive_pick}

abbrev pub none_left : Model → Bool
none_left m = length (unsatisfied m) == 0

-- the record of a flip of the variable at the place x, in this mode
abbrev pub moved : ℕ → ℕ → Model → Move
moved mode x m = record { mode = mode; variable = x + 1; score = score m x; cost = cost (flipped x m) }

-- an answer and the model then
pub record After : Type 0 where
  pub answer : Stepped
  pub model : Model

abbrev pub after : Stepped → Model → After
after a m = record { answer = a; model = m }

abbrev pub flip_by : ℕ → ℕ → Model → After
flip_by mode x m = after (step.Moved (moved mode x m)) (flipped x m)

-- the place in a list of u clauses that a drawn number gives
abbrev pub place_of : ℕ → ℕ → ℕ
place_of d u = d % u

-- the unsatisfied clause that a drawn number gives
abbrev pub drawn : ℕ → Model → ℕ
drawn d m = slice_index (unsatisfied m) (place_of d (length (unsatisfied m)))

-- a dive with the number d: the weighing first, then the flip
abbrev pub dive : ℕ → Model → After
dive d m = flip_by 0 (unwrap_or (dive_pick (weighed m) (drawn d m)) 0) (weighed m)

abbrev pub dive_or_dry : Option ℕ → Model → After
dive_or_dry (Some d) m = dive d m
dive_or_dry None m = after step.Dry m

abbrev pub greedy_or : Levels → Option ℕ → Option ℕ → Model → After
greedy_or f o (Some x) m = flip_by (level_of f m x) x m
greedy_or f o None m = dive_or_dry o m

abbrev pub stepped : Levels → Option ℕ → Model → After
stepped f o m = cond (none_left m) (after step.Found m) (greedy_or f o (pick f m) m)

-- what a source offers
abbrev pub offer : {Σ : Type 0} → Meaning Σ → Σ → Option ℕ
offer u s = cond (u.ready s) (Some (u.number s)) None

-- a dive was made
abbrev pub dived : Stepped → Bool
dived step.Found = false
dived step.Dry = false
dived (step.Moved r) = r.mode == 0

-- a source after a step: it has given its number exactly when a dive was made
abbrev pub left : {Σ : Type 0} → Meaning Σ → Stepped → Σ → Σ
left u a s = cond (dived a) (u.after s) s

-- how a run ends: its outcome, its records, the model and the source
pub record Run (Σ : Type 0) : Type 0 where
  pub outcome : Outcome
  pub moves : List Move
  pub model : Model
  pub source : Σ

abbrev pub ended : {Σ : Type 0} → Outcome → Model → Σ → Run Σ
ended o m s = record { outcome = o; moves = []; model = m; source = s }

abbrev pub noted : {Σ : Type 0} → Move → Run Σ → Run Σ
noted v r = record { outcome = r.outcome; moves = v ∷ r.moves; model = r.model; source = r.source }

-- a run goes on after a step that moved, and ends at one that did not
abbrev pub continued : {Σ : Type 0} → Stepped → Run Σ → Model → Σ → Run Σ
continued step.Found r m s = ended outcome.Found m s
continued step.Dry r m s = ended outcome.Dry m s
continued (step.Moved v) r m s = noted v r

-- the outcome of a run that has made its whole budget
abbrev pub ran_to : Model → Outcome
ran_to m = cond (none_left m) outcome.Found outcome.Unknown

-- a run of at most so many steps
abbrev pub run : {Σ : Type 0} → Levels → Meaning Σ → ℕ → Model → Σ → Run Σ
run f u zero m s = ended (ran_to m) m s
run f u (suc b) m s =
    continued (stepped f (offer u s) m).answer (run f u b (stepped f (offer u s) m).model (left u (stepped f (offer u s) m).answer s)) m s

abbrev pub is_dive : Move → Bool
is_dive v = v.mode == 0

abbrev pub dives_in : List Move → ℕ
dives_in vs = count_by is_dive vs

-- the outcome, the steps that moved and the dives among them
abbrev pub counts : {Σ : Type 0} → Run Σ → (Outcome × ℕ × ℕ)
counts r = (r.outcome, length r.moves, dives_in r.moves)

-- a trail with these records at its front
abbrev pub trailed : List Move → List Move → List Move
trailed vs old = vs ++ drop (length vs) old
