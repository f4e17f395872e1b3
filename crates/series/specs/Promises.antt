-- What a series of calls on a new engine promises.
use Rattle.std.specs.Prelude.{◌≡◌, ℕ, List, ◌++◌, length, take, drop, ℤ, None, Option, Result}
use Rattle.cnf.specs.declared.refusal.Refusal.{Refusal}
use Rattle.policy.specs.Levels.{Levels}
use Rattle.policy.specs.Sources.{Meaning}
use Rattle.state.specs.Model.{Model}
use Rattle.engine.specs.declared.answers.Move.{Move}
use Rattle.engine.specs.declared.engine.Engine.{Engine}
use Rattle.engine.specs.Engines.{KeepsExact}
use Rattle.series.specs.declared.call.Call.{Call}
use Rattle.series.specs.declared.call.Answer.{Answer}
use Rattle.series.specs.Laws.{Event, holding, Held, HistoriesHold, RunMeans, PicksTheFirst, DivesToTheTop}
use Rattle.series.specs.Series.{Went, went}

-- the answers, the model, the sources and the trail are what the calls give
pub record GivesWhatTheCallsGive {Σ : Type 0} (w : Went Σ) (o : Option Model) (ss : List Σ) (trail : List Move) (old new : List (Result Answer Refusal)) : Type 0 where
  pub model : o ≡ w.model
  pub sources : ss ≡ w.sources
  pub records : trail ≡ w.trail
  pub replies : new ≡ w.replies ++ drop (length w.replies) old

-- the history that the calls made leads to what the engine holds, and is one of those that the laws speak of
pub record MakesItsHistory (es : List Event) (o : Option Model) : Type 0 where
  pub leads : holding es None ≡ o
  pub holds : Held es

-- every engine, so an engine at each moment of a series too, keeps scores, marks, cost and unsatisfied clauses that equal their definitions over what it holds
abbrev pub EnginesAreExact : Type 0
EnginesAreExact = (e : Engine) → KeepsExact e

-- the laws, of every history and of every policy and source
pub record LawsOfSearch (Σ : Type 0) : Type 0 where
  pub histories : HistoriesHold
  pub runs : (f : Levels) (u : Meaning Σ) (b : ℕ) (m : Model) (s : Σ) → RunMeans f u b m s
  pub picks : (f : Levels) (m : Model) → PicksTheFirst f m
  pub dives : (m : Model) (i : ℕ) → DivesToTheTop m i

-- the series of as many calls as there are places for their answers, from a new engine
abbrev pub series : {Π Σ : Type 0} → (Π → Levels) → Meaning Σ → List ℤ → List ℕ → List Π → List Call → List Σ → List Move → ℕ → Went Σ
series lv u ws starts ps ks ss trail n = went lv u ws starts ps (take n ks) None ss trail
