-- What picks, steps, runs and whole histories mean, in the words of the subject.
use Rattle.std.specs.Prelude.{◌≡◌, ℕ, ◌<◌, ◌≤◌, true, false, ◌⊎◌, List, [], ◌∷◌, ◌++◌, length, ℤ, pos, ◌+ℤ◌, ◌≤ℤ◌, ◌<ℤ◌, Some, None, Option, ◌≢◌}
use Rattle.std.specs.List.{AllByRecursion}
use Rattle.cnf.specs.Promises.{AllSatisfied}
use Rattle.formula.specs.Clauses.{names}
use Rattle.policy.specs.Levels.{Levels, LawfulLevels}
use Rattle.policy.specs.Sources.{Meaning}
use Rattle.state.specs.Model.{Model, assignment, clause_of, cost, score, changed, stamp_of, begun, flipped, weighed, ticked}
use Rattle.state.specs.Theorems.{Filled}
use Rattle.engine.specs.declared.answers.Move.{Move}
use Rattle.engine.specs.declared.answers.Stepped.{Stepped}
use Rattle.engine.specs.declared.answers.Stepped.TheVariants as step
use Rattle.engine.specs.declared.answers.Outcome.TheVariants as outcome
use Rattle.engine.specs.Picks.{level_of, pick, dive_pick}
use Rattle.engine.specs.Steps.{After, stepped, dive, run}

-- a greater score; or the same, and a lesser stamp; or the same too, and a lesser number
abbrev pub RanksBefore : Model → ℕ → ℕ → Type 0
RanksBefore m x y = (score m y <ℤ score m x) ⊎ ((score m x ≡ score m y) × ((stamp_of m x < stamp_of m y) ⊎ ((stamp_of m x ≡ stamp_of m y) × (x < y))))

-- a lesser level; or the same, and a better rank
abbrev pub GoesBefore : Levels → Model → ℕ → ℕ → Type 0
GoesBefore f m x y = (level_of f m x < level_of f m y) ⊎ ((level_of f m x ≡ level_of f m y) × RanksBefore m x y)

-- x is admitted, and goes before every other variable that is
pub record Picked (f : Levels) (m : Model) (x : ℕ) : Type 0 where
  pub below : x < m.variables
  pub admitted : 0 < level_of f m x
  pub first : (y : ℕ) → y < m.variables → 0 < level_of f m y → (y ≢ x) → GoesBefore f m x y

abbrev pub NoneAdmitted : Levels → Model → Type 0
NoneAdmitted f m = (x : ℕ) → x < m.variables → level_of f m x ≡ 0

-- the pick is the one variable that goes before all others, or there is none to pick
pub record PicksTheFirst (f : Levels) (m : Model) : Type 0 where
  pub none_only : pick f m ≡ None → NoneAdmitted f m
  pub none_every : NoneAdmitted f m → pick f m ≡ None
  pub some_only : (x : ℕ) → pick f m ≡ Some x → Picked f m x
  pub some_every : (x : ℕ) → Picked f m x → pick f m ≡ Some x

-- the clause at the place i names x, and x ranks before every other variable that it names
pub record Topmost (m : Model) (i x : ℕ) : Type 0 where
  pub below : x < m.variables
  pub named : names (clause_of m i) x ≡ true
  pub first : (y : ℕ) → y < m.variables → names (clause_of m i) y ≡ true → (y ≢ x) → RanksBefore m x y

-- a dive's pick in a clause is its topmost variable; only a clause that names no variable has none
pub record DivesToTheTop (m : Model) (i : ℕ) : Type 0 where
  pub none_only : dive_pick m i ≡ None → (x : ℕ) → x < m.variables → names (clause_of m i) x ≡ false
  pub some_only : (x : ℕ) → dive_pick m i ≡ Some x → Topmost m i x
  pub some_every : (x : ℕ) → Topmost m i x → dive_pick m i ≡ Some x

-- a dive is due: it was made, or no number was ready for it
abbrev pub Due : Stepped → Type 0
Due step.Found = ⊥
Due step.Dry = Unit {0}
Due (step.Moved v) = v.mode ≡ 0

abbrev pub AllHold : Model → Type 0
AllHold m = AllSatisfied (assignment m) m.clauses

-- what a step says that came to a, with the level function f and what its source offers
pub record StepMeans (f : Levels) (o : Option ℕ) (m : Model) (a : After) : Type 0 where
  pub found_only : a.answer ≡ step.Found → AllHold m
  pub found_every : AllHold m → a.answer ≡ step.Found
  pub due_only : Due a.answer → NoneAdmitted f m
  pub due_every : (AllHold m → ⊥) → NoneAdmitted f m → Due a.answer
  pub quiet : LawfulLevels f → Due a.answer → (x : ℕ) → x < m.variables → changed m x ≡ true → score m x ≤ℤ pos 0
  pub dry_only : a.answer ≡ step.Dry → o ≡ None
  pub dry_every : Due a.answer → o ≡ None → a.answer ≡ step.Dry
  pub number : (v : Move) → a.answer ≡ step.Moved v → v.mode ≡ 0 → (d : ℕ) × (o ≡ Some d) × (a ≡ dive d m)

-- an accepted run says Found exactly when every clause is satisfied after it
pub record RunMeans {Σ : Type 0} (f : Levels) (u : Meaning Σ) (b : ℕ) (m : Model) (s : Σ) : Type 0 where
  pub found_only : (run f u b m s).outcome ≡ outcome.Found → AllHold (run f u b m s).model
  pub found_every : AllHold (run f u b m s).model → (run f u b m s).outcome ≡ outcome.Found
  pub unknown : (run f u b m s).outcome ≡ outcome.Unknown → length (run f u b m s).moves ≡ b

-- what happens to an engine: it begins at a start, a flip or a weighing is called for, or a step is made, on its own or in a run
pub data Event : Type 0 where
  begins : ℕ → List (List ℤ) → List ℕ → Event
  flips : ℕ → Event
  weighs : Event
  steps : Levels → Option ℕ → Event

abbrev pub happened : Event → Option Model → Option Model
happened (begins v cs start) o = Some (begun v cs start)
happened (flips x) None = None
happened (flips x) (Some m) = Some (flipped x m)
happened weighs None = None
happened weighs (Some m) = Some (ticked (weighed m))
happened (steps f o) None = None
happened (steps f o) (Some m) = Some (stepped f o m).model

-- what an engine holds after a history
abbrev pub holding : List Event → Option Model → Option Model
holding [] o = o
holding (e ∷ es) o = holding es (happened e o)

-- a start has a value for each variable, and a policy is lawful
abbrev pub LawfulEvent : Event → Type 0
LawfulEvent (begins v cs start) = length start ≡ v
LawfulEvent (flips x) = Unit {0}
LawfulEvent weighs = Unit {0}
LawfulEvent (steps f o) = LawfulLevels f

-- a greedy move, or an answer that alters nothing
abbrev pub Greedy : Stepped → Type 0
Greedy step.Found = Unit {0}
Greedy step.Dry = Unit {0}
Greedy (step.Moved v) = 0 < v.mode

-- a stretch: steps that are greedy, with nothing between them that flips, weighs or begins anew
abbrev pub Stretch : Model → List Event → Type 0
Stretch m [] = Unit {0}
Stretch m (begins v cs start ∷ es) = ⊥
Stretch m (flips x ∷ es) = ⊥
Stretch m (weighs ∷ es) = ⊥
Stretch m (steps f o ∷ es) = Greedy (stepped f o m).answer × Stretch (stepped f o m).model es

abbrev pub moves_at : Stepped → List Move → List Move
moves_at step.Found vs = vs
moves_at step.Dry vs = vs
moves_at (step.Moved v) vs = v ∷ vs

-- the records of a stretch
abbrev pub moves_in : Model → List Event → List Move
moves_in m [] = []
moves_in m (begins v cs start ∷ es) = []
moves_in m (flips x ∷ es) = []
moves_in m (weighs ∷ es) = []
moves_in m (steps f o ∷ es) = moves_at (stepped f o m).answer (moves_in (stepped f o m).model es)

abbrev pub models_at : Stepped → Model → List Model → List Model
models_at step.Found n ns = ns
models_at step.Dry n ns = ns
models_at (step.Moved v) n ns = n ∷ ns

-- the models that its moves come to
abbrev pub models_in : Model → List Event → List Model
models_in m [] = []
models_in m (begins v cs start ∷ es) = []
models_in m (flips x ∷ es) = []
models_in m (weighs ∷ es) = []
models_in m (steps f o ∷ es) = models_at (stepped f o m).answer (stepped f o m).model (models_in (stepped f o m).model es)

abbrev pub last_of : Model → List Event → Model
last_of m [] = m
last_of m (begins v cs start ∷ es) = m
last_of m (flips x ∷ es) = m
last_of m (weighs ∷ es) = m
last_of m (steps f o ∷ es) = last_of (stepped f o m).model es

abbrev pub scores_of : List Move → ℤ
scores_of [] = pos 0
scores_of (v ∷ vs) = v.score +ℤ scores_of vs

-- no assignment comes up twice
abbrev pub Apart : List Model → Type 0
Apart [] = Unit {0}
Apart (m ∷ ms) = AllByRecursion (λ n. m.values ≢ n.values) ms × Apart ms

-- a stretch that begins at m descends
pub record Descends (m : Model) (es : List Event) : Type 0 where
  pub paid : pos (cost m) ≡ pos (cost (last_of m es)) +ℤ scores_of (moves_in m es)
  pub above : AllByRecursion (λ v. pos 0 <ℤ v.score) (moves_in m es)
  pub apart : Apart (m ∷ models_in m es)
  pub few : length (moves_in m es) ≤ cost m

abbrev pub FilledIn : Option Model → Type 0
FilledIn None = Unit {0}
FilledIn (Some m) = Filled m

-- what holds of every history of a new engine
pub record Held (es : List Event) : Type 0 where
  pub whole : (before rest : List Event) → es ≡ before ++ rest → FilledIn (holding before None)
  pub means : (before rest : List Event) (f : Levels) (o : Option ℕ) (m : Model) → es ≡ before ++ (steps f o ∷ rest) → holding before None ≡ Some m → StepMeans f o m (stepped f o m)
  pub stretches : (before stretch rest : List Event) (m : Model) → es ≡ before ++ (stretch ++ rest) → holding before None ≡ Some m → Stretch m stretch → Descends m stretch

abbrev pub HistoriesHold : Type 0
HistoriesHold = (es : List Event) → AllByRecursion LawfulEvent es → Held es
