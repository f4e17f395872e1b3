-- What becomes of a sheet that was begun.
use Rattle.std.specs.Prelude.{ℕ, List, Ok, Err, Result}
use Rattle.cnf.specs.declared.refusal.Refusal.{Refusal}
use Rattle.sheet.specs.declared.sheet.Sheet.{Sheet}
use Rattle.sheet.specs.Sheets.{added_all, finished}

-- values are added, and it is closed
abbrev pub filled : List ℕ → (Result Sheet Refusal × List ℕ) → (Result ℕ Refusal × List ℕ)
filled bs (Ok s, out) = finished (added_all s bs out)
filled bs (Err e, out) = (Err e, out)

-- it is torn at once
abbrev pub torn : (Result Sheet Refusal × List ℕ) → (Result ℕ Refusal × List ℕ)
torn (Ok s, out) = (Ok s.written, out)
torn (Err e, out) = (Err e, out)
