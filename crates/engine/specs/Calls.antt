-- What each call of the engine answers, and what the engine, the source and the trail hold then. An engine has a model, or none before its first load.
use Rattle.std.specs.Prelude.{ℕ, ◌+◌, ◌-◌, cond, ◌&&◌, List, length, ℤ, Some, None, Ok, Err, Option, Result, nat_le, nat_lt, slice_index}
use Rattle.cnf.specs.declared.refusal.Check.{Check}
use Rattle.cnf.specs.declared.refusal.Check.TheVariants.{HasFormula, InRange, TicksLeft, BudgetFits}
use Rattle.cnf.specs.declared.refusal.Refusal.{Refusal}
use Rattle.cnf.specs.Refusals.{refused}
use Rattle.cnf.specs.Scans.{and_then, within, table_checked, start_checked}
use Rattle.policy.specs.Levels.{Levels}
use Rattle.policy.specs.Sources.{Meaning}
use Rattle.state.specs.Model.{Model, unsatisfied, flipped, weighed, ticked, loaded, restarted}
use Rattle.engine.specs.declared.answers.Move.{Move}
use Rattle.engine.specs.declared.answers.Stepped.{Stepped}
use Rattle.engine.specs.declared.answers.Outcome.{Outcome}
use Rattle.engine.specs.Steps.{stepped, offer, left, run, counts, trailed}

-- an answer, and the model then
pub record Reply (A : Type 0) : Type 0 where
  pub answer : Result A Refusal
  pub model : Option Model

-- the new model where nothing is refused, else the old one
abbrev pub replied : {A : Type 0} → Result A Refusal → Option Model → Option Model → Reply A
replied (Ok x) new old = record { answer = Ok x; model = new }
replied (Err f) new old = record { answer = Err f; model = old }

abbrev pub refusing : {A : Type 0} → Check → Result A Refusal
refusing c = Err (refused c 0)

-- what needs a formula
abbrev pub asking : {A : Type 0} → Option Model → (Model → Result A Refusal) → Result A Refusal
asking None k = refusing HasFormula
asking (Some m) k = k m

abbrev pub in_range : ℕ → ℕ → Result Unit Refusal
in_range n x = cond (within 1 n x) (Ok tt) (refusing InRange)

abbrev pub ticks_left : ℕ → Model → Result Unit Refusal
ticks_left n m = cond (nat_le (m.tick + n) 1000000) (Ok tt) (refusing TicksLeft)

abbrev pub budget_fits : ℕ → List Move → Result Unit Refusal
budget_fits b trail = cond (nat_le b 65535 && nat_le b (length trail)) (Ok tt) (refusing BudgetFits)

abbrev pub load_reply : ℕ → List ℤ → List ℕ → Option Model → Reply Unit
load_reply v ws start o = replied (and_then (table_checked v ws) (λ _. start_checked v start)) (Some (loaded v ws start)) o

abbrev pub restart_reply : List ℕ → Option Model → Reply Unit
restart_reply start None = record { answer = refusing HasFormula; model = None }
restart_reply start (Some m) = replied (start_checked m.variables start) (Some (restarted m start)) (Some m)

abbrev pub flip_reply : ℕ → Option Model → Reply Unit
flip_reply x None = record { answer = refusing HasFormula; model = None }
flip_reply x (Some m) = replied (and_then (in_range m.variables x) (λ _. ticks_left 1 m)) (Some (flipped (x - 1) m)) (Some m)

abbrev pub weigh_reply : Option Model → Reply Unit
weigh_reply None = record { answer = refusing HasFormula; model = None }
weigh_reply (Some m) = replied (ticks_left 1 m) (Some (ticked (weighed m))) (Some m)

-- a call that is lent a source
pub record Drawing (A Σ : Type 0) : Type 0 where
  pub answer : Result A Refusal
  pub model : Option Model
  pub source : Σ

abbrev pub undrawn : {A Σ : Type 0} → Refusal → Option Model → Σ → Drawing A Σ
undrawn f o s = record { answer = Err f; model = o; source = s }

unfoldable pub step_reply : {Σ : Type 0} → Levels → Meaning Σ → Option Model → Σ → Drawing Stepped Σ
step_reply f u None s = undrawn (refused HasFormula 0) None s
step_reply f u (Some m) s =
    cond (nat_le (m.tick + 1) 1000000)
    (record { answer = Ok (stepped f (offer u s) m).answer; model = Some (stepped f (offer u s) m).model; source = left u (stepped f (offer u s) m).answer s })
    (undrawn (refused TicksLeft 0) (Some m) s)

-- what a run is refused by
abbrev pub run_checked : ℕ → List Move → Model → Result Unit Refusal
run_checked b trail m = and_then (budget_fits b trail) (λ _. ticks_left b m)

abbrev pub run_with : {Σ : Type 0} → Result Unit Refusal → Levels → Meaning Σ → ℕ → Model → Σ → Drawing (Outcome × ℕ × ℕ) Σ
run_with (Ok x) f u b m s = record { answer = Ok (counts (run f u b m s)); model = Some (run f u b m s).model; source = (run f u b m s).source }
run_with (Err e) f u b m s = undrawn e (Some m) s

unfoldable pub run_reply : {Σ : Type 0} → Levels → Meaning Σ → ℕ → Option Model → Σ → List Move → Drawing (Outcome × ℕ × ℕ) Σ
run_reply f u b None s trail = undrawn (refused HasFormula 0) None s
run_reply f u b (Some m) s trail = run_with (run_checked b trail m) f u b m s

-- the trail after a run
abbrev pub trail_with : {Σ : Type 0} → Result Unit Refusal → Levels → Meaning Σ → ℕ → Model → Σ → List Move → List Move
trail_with (Ok x) f u b m s trail = trailed (run f u b m s).moves trail
trail_with (Err e) f u b m s trail = trail

unfoldable pub run_trail : {Σ : Type 0} → Levels → Meaning Σ → ℕ → Option Model → Σ → List Move → List Move
run_trail f u b None s trail = trail
run_trail f u b (Some m) s trail = trail_with (run_checked b trail m) f u b m s trail

-- questions: variables and clauses by their numbers, from 1; a place of the unsatisfied list from 0
abbrev pub of_variable : {A : Type 0} → (Model → ℕ → A) → ℕ → Option Model → Result A Refusal
of_variable k x o = asking o (λ m. and_then (in_range m.variables x) (λ _. Ok (k m (x - 1))))

abbrev pub of_clause : {A : Type 0} → (Model → ℕ → A) → ℕ → Option Model → Result A Refusal
of_clause k i o = asking o (λ m. and_then (in_range (length m.clauses) i) (λ _. Ok (k m (i - 1))))

abbrev pub of_model : {A : Type 0} → (Model → A) → Option Model → Result A Refusal
of_model k o = asking o (λ m. Ok (k m))

abbrev pub tick_of : Model → ℕ
tick_of m = m.tick

abbrev pub unsatisfied_count : Model → ℕ
unsatisfied_count m = length (unsatisfied m)

abbrev pub unsatisfied_at : ℕ → Option Model → Result ℕ Refusal
unsatisfied_at p o = asking o (λ m. cond (nat_lt p (length (unsatisfied m))) (Ok (slice_index (unsatisfied m) p + 1)) (refusing InRange))
