-- What a series of calls comes to: each answer, what the engine, the sources and the trail hold then, and the history that it makes.
use Rattle.std.specs.Prelude.{ℕ, zero, suc, ◌-◌, cond, ◌&&◌, List, [], ◌∷◌, ◌++◌, length, take, drop, ℤ, Some, None, Ok, Err, Option, Result, nat_le, slice_set}
use Rattle.cnf.specs.declared.refusal.Check.TheVariants.{InRange}
use Rattle.cnf.specs.declared.refusal.Refusal.{Refusal}
use Rattle.cnf.specs.Tables.{clauses_of}
use Rattle.policy.specs.Levels.{Levels}
use Rattle.policy.specs.Sources.{Meaning}
use Rattle.state.specs.Model.{Model, assignment, stamp_of, weight_of, cost, score, changed}
use Rattle.engine.specs.declared.answers.Move.{Move}
use Rattle.engine.specs.declared.answers.Stepped.{Stepped}
use Rattle.engine.specs.declared.answers.Stepped.TheVariants as step
use Rattle.engine.specs.declared.answers.Outcome.{Outcome}
use Rattle.series.specs.declared.call.Part.{Part}
use Rattle.series.specs.declared.call.Question.{Question}
use Rattle.series.specs.declared.call.Question.TheVariants as ask
use Rattle.series.specs.declared.call.Call.{Call}
use Rattle.series.specs.declared.call.Call.TheVariants as call
use Rattle.series.specs.declared.call.Answer.{Answer}
use Rattle.series.specs.declared.call.Answer.TheVariants as answer
use Rattle.engine.specs.Steps.{stepped, offer, left}
use Rattle.engine.specs.Calls.{Reply, refusing, load_reply, restart_reply, flip_reply, weigh_reply, step_reply, run_reply, run_trail, of_variable, of_clause, of_model, tick_of, unsatisfied_count, unsatisfied_at}
use Rattle.series.specs.Laws.{Event, begins, flips, weighs, steps}

-- the lent part, if there is one from and up to these places
abbrev pub lent : {A : Type 0} → List A → Part → Option (List A)
lent xs p = cond (nat_le p.from p.to && nat_le p.to (length xs)) (Some (take (p.to - p.from) (drop p.from xs))) None

-- what stands at a place
abbrev pub look : {A : Type 0} → List A → ℕ → Option A
look [] i = None
look (x ∷ xs) zero = Some x
look (x ∷ xs) (suc i) = look xs i

-- an answer given as the answer of a series
abbrev pub given : {A : Type 0} → (A → Answer) → Result A Refusal → Result Answer Refusal
given k (Ok x) = Ok (k x)
given k (Err f) = Err f

abbrev pub ran_as : Outcome × ℕ × ℕ → Answer
ran_as t = answer.Ran t.0 t.1 t.2

-- what a call leaves: its answer, the engine's model, the sources, the trail, and the events that it made
pub record Performed (Σ : Type 0) : Type 0 where
  pub reply : Result Answer Refusal
  pub model : Option Model
  pub sources : List Σ
  pub trail : List Move
  pub events : List Event

-- a call that alters nothing
abbrev pub idle : {Σ : Type 0} → Result Answer Refusal → Option Model → List Σ → List Move → Performed Σ
idle r o ss trail = record { reply = r; model = o; sources = ss; trail = trail; events = [] }

-- the events of a call that was accepted
abbrev pub accepted : {A : Type 0} → Result A Refusal → List Event → List Event
accepted (Ok x) es = es
accepted (Err f) es = []

-- a call that changes the model at most
abbrev pub told : {Σ : Type 0} → Reply Unit → List Event → List Σ → List Move → Performed Σ
told r es ss trail = record { reply = given (λ _. answer.Done) r.answer; model = r.model; sources = ss; trail = trail; events = accepted r.answer es }

abbrev pub load_with : {Σ : Type 0} → ℕ → Option (List ℤ) → Option (List ℕ) → Option Model → List Σ → List Move → Performed Σ
load_with v None start o ss trail = idle (refusing InRange) o ss trail
load_with v (Some ws) None o ss trail = idle (refusing InRange) o ss trail
load_with v (Some ws) (Some start) o ss trail = told (load_reply v ws start o) (begins v (clauses_of ws) start ∷ []) ss trail

abbrev pub restart_events : Option Model → List ℕ → List Event
restart_events None start = []
restart_events (Some m) start = begins m.variables m.clauses start ∷ []

abbrev pub restart_with : {Σ : Type 0} → Option (List ℕ) → Option Model → List Σ → List Move → Performed Σ
restart_with None o ss trail = idle (refusing InRange) o ss trail
restart_with (Some start) o ss trail = told (restart_reply start o) (restart_events o start) ss trail

-- the events of a step, and of a run: one for each step that moves, and one for a dry one
abbrev pub step_events : {Σ : Type 0} → Levels → Meaning Σ → Σ → List Event
step_events f u s = steps f (offer u s) ∷ []

abbrev pub onwards : Stepped → Event → List Event → List Event
onwards step.Found e es = []
onwards step.Dry e es = e ∷ []
onwards (step.Moved v) e es = e ∷ es

abbrev pub run_events : {Σ : Type 0} → Levels → Meaning Σ → ℕ → Model → Σ → List Event
run_events f u zero m s = []
run_events f u (suc b) m s = onwards (stepped f (offer u s) m).answer (steps f (offer u s)) (run_events f u b (stepped f (offer u s) m).model (left u (stepped f (offer u s) m).answer s))

abbrev pub run_events_of : {Σ : Type 0} → Levels → Meaning Σ → ℕ → Option Model → Σ → List Event
run_events_of f u b None s = []
run_events_of f u b (Some m) s = run_events f u b m s

abbrev pub step_with : {Π Σ : Type 0} → (Π → Levels) → Meaning Σ → Option Π → Option Σ → ℕ → Option Model → List Σ → List Move → Performed Σ
step_with lv u None s j o ss trail = idle (refusing InRange) o ss trail
step_with lv u (Some p) None j o ss trail = idle (refusing InRange) o ss trail
step_with lv u (Some p) (Some s) j o ss trail =
    record {
      reply = given answer.Stepped (step_reply (lv p) u o s).answer;
      model = (step_reply (lv p) u o s).model;
      sources = slice_set ss j (step_reply (lv p) u o s).source;
      trail = trail;
      events = accepted (step_reply (lv p) u o s).answer (step_events (lv p) u s);
    }

abbrev pub run_with : {Π Σ : Type 0} → (Π → Levels) → Meaning Σ → Option Π → Option Σ → ℕ → ℕ → Option Model → List Σ → List Move → Performed Σ
run_with lv u None s j b o ss trail = idle (refusing InRange) o ss trail
run_with lv u (Some p) None j b o ss trail = idle (refusing InRange) o ss trail
run_with lv u (Some p) (Some s) j b o ss trail =
    record {
      reply = given ran_as (run_reply (lv p) u b o s trail).answer;
      model = (run_reply (lv p) u b o s trail).model;
      sources = slice_set ss j (run_reply (lv p) u b o s trail).source;
      trail = run_trail (lv p) u b o s trail;
      events = accepted (run_reply (lv p) u b o s trail).answer (run_events_of (lv p) u b o s);
    }

abbrev pub answered : Question → Option Model → Result Answer Refusal
answered (ask.Value x) o = given answer.Flag (of_variable assignment x o)
answered (ask.Score x) o = given answer.Score (of_variable score x o)
answered (ask.Stamp x) o = given answer.Number (of_variable stamp_of x o)
answered (ask.Changed x) o = given answer.Flag (of_variable changed x o)
answered (ask.Weight i) o = given answer.Number (of_clause weight_of i o)
answered ask.Cost o = given answer.Number (of_model cost o)
answered ask.Tick o = given answer.Number (of_model tick_of o)
answered ask.Unsatisfied o = given answer.Count (of_model unsatisfied_count o)
answered (ask.UnsatisfiedAt p) o = given answer.Count (unsatisfied_at p o)

-- what one call does, lent these words, starts and policies
unfoldable pub perform : {Π Σ : Type 0} → (Π → Levels) → Meaning Σ → List ℤ → List ℕ → List Π → Call → Option Model → List Σ → List Move → Performed Σ
perform lv u ws starts ps (call.Load v p q) o ss trail = load_with v (lent ws p) (lent starts q) o ss trail
perform lv u ws starts ps (call.Restart q) o ss trail = restart_with (lent starts q) o ss trail
perform lv u ws starts ps (call.Flip x) o ss trail = told (flip_reply x o) (flips (x - 1) ∷ []) ss trail
perform lv u ws starts ps call.Weigh o ss trail = told (weigh_reply o) (weighs ∷ []) ss trail
perform lv u ws starts ps (call.Step i j) o ss trail = step_with lv u (look ps i) (look ss j) j o ss trail
perform lv u ws starts ps (call.Run i j b) o ss trail = run_with lv u (look ps i) (look ss j) j b o ss trail
perform lv u ws starts ps (call.Ask q) o ss trail = idle (answered q o) o ss trail

-- how a series ends: the answers, what is held then, and the history that it made
pub record Went (Σ : Type 0) : Type 0 where
  pub replies : List (Result Answer Refusal)
  pub model : Option Model
  pub sources : List Σ
  pub trail : List Move
  pub history : List Event

abbrev pub onto : {Σ : Type 0} → Performed Σ → Went Σ → Went Σ
onto p w = record { replies = p.reply ∷ w.replies; model = w.model; sources = w.sources; trail = w.trail; history = p.events ++ w.history }

abbrev pub went : {Π Σ : Type 0} → (Π → Levels) → Meaning Σ → List ℤ → List ℕ → List Π → List Call → Option Model → List Σ → List Move → Went Σ
went lv u ws starts ps [] o ss trail = record { replies = []; model = o; sources = ss; trail = trail; history = [] }
went lv u ws starts ps (k ∷ ks) o ss trail =
    onto (perform lv u ws starts ps k o ss trail) (went lv u ws starts ps ks (perform lv u ws starts ps k o ss trail).model (perform lv u ws starts ps k o ss trail).sources (perform lv u ws starts ps k o ss trail).trail)
