-- The bytes of the line that tells of a refusal.
use Rattle.std.specs.Prelude.{ℕ, List, [], ◌∷◌, codes, Result}
use Rattle.cnf.specs.declared.refusal.Refusal.{Refusal}
use Rattle.cnf.specs.Refusals.{number_of}
use Rattle.lay.specs.Laid.{put}
use Rattle.lay.specs.Lines.{line_text}
use Rattle.sheet.specs.Sheets.{fitted}

-- `c refused N at P` and a line end
abbrev pub refused_text : Refusal → List ℕ
refused_text r = line_text (codes "c refused ") (number_of r.check) (codes " at ") r.place (10 ∷ [])

abbrev pub line_for : Refusal → List ℕ → (Result ℕ Refusal × List ℕ)
line_for r out = fitted (put out 0 (refused_text r))
