-- What the parts of the program hand to each other: the calls, what was answered, and the bytes of what an engine holds.
use Rattle.std.specs.Prelude.{◌≡◌, ℕ, List, [], ◌∷◌, length, min, Some, None, Ok, Err, Option, Result}
use Rattle.cnf.specs.declared.refusal.Refusal.{Refusal}
use Rattle.state.specs.Model.{Model}
use Rattle.series.specs.declared.call.Call.{Call}
use Rattle.series.specs.declared.call.Call.TheVariants as call
use Rattle.series.specs.declared.call.Answer.{Answer}
use Rattle.series.specs.declared.call.Answer.TheVariants as answer
use Rattle.sheet.specs.declared.sheet.Effort.{Effort}
use Rattle.rack.specs.Answers.{bytes_of}

-- an engine holds a model of n variables, with a value for each
pub record Holds (o : Option Model) (n : ℕ) : Type 0 where
  pub model : Model
  pub is : o ≡ Some model
  pub variables : model.variables ≡ n
  pub values : length model.values ≡ n

-- the bytes of its values
abbrev pub bytes_in : Option Model → List ℕ
bytes_in None = []
bytes_in (Some m) = bytes_of m

abbrev pub no_effort : Effort
no_effort = record { steps = 0; dives = 0 }

-- the steps and the dives of a run that was answered, as far as 32 bits hold them, or the refusal of it
abbrev pub effort_of : Result Answer Refusal → Result Effort Refusal
effort_of (Ok answer.Done) = Ok no_effort
effort_of (Ok (answer.Stepped s)) = Ok no_effort
effort_of (Ok (answer.Ran o steps dives)) = Ok (record { steps = min steps 4294967295; dives = min dives 4294967295 })
effort_of (Ok (answer.Flag b)) = Ok no_effort
effort_of (Ok (answer.Score z)) = Ok no_effort
effort_of (Ok (answer.Number n)) = Ok no_effort
effort_of (Ok (answer.Count n)) = Ok no_effort
effort_of (Err r) = Err r

-- the calls that load the first n words, with the first v bytes as the start, and then run at most so many steps
abbrev pub load_and_run : ℕ → ℕ → ℕ → List Call
load_and_run v n budget = call.Load v (record { from = 0; to = n }) (record { from = 0; to = v }) ∷ call.Run 0 0 budget ∷ []
