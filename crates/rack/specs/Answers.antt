-- What the program answers to a text: the sheet of the run that it makes on the table, or the line of a refusal.
use Rattle.std.specs.Prelude.{ℕ, List, map, length, replicate, ℤ, Ok, Err, Result}
use mir.Val.{bool_byte}
use Rattle.cnf.specs.declared.refusal.Refusal.{Refusal}
use Rattle.words.specs.declared.faults.HeadFault.{HeadFault}
use Rattle.words.specs.Faults.{head_refusal}
use Rattle.dimacs.specs.declared.read.Problem.{Problem}
use Rattle.dimacs.specs.Reads.{read_answer, text_words}
use Rattle.policy.specs.declared.generator.Generator.{Generator}
use Rattle.policy.specs.Policies.{cca}
use Rattle.policy.specs.Generators.{generator, holding}
use Rattle.state.specs.Model.{Model, loaded}
use Rattle.engine.specs.Steps.{Run, run, dives_in}
use Rattle.sheet.specs.Sheets.{printed}
use Rattle.sheet.specs.RefusedLines.{line_for}

-- a table with every variable at 0
abbrev pub begins : ℕ → List ℤ → Model
begins v ws = loaded v ws (replicate v 0)

-- a run by configuration checking with aspiration, with numbers from a seed, of at most so many steps
unfoldable pub ran : ℕ → ℕ → Model → Run Generator
ran seed budget m = run cca generator budget m (holding seed)

-- the run that the program makes on a table
abbrev pub run_on : ℕ → List ℤ → Run Generator
run_on v ws = ran 1 1000 (begins v ws)

-- the values of a model, a byte 0 or 1 for each variable
abbrev pub bytes_of : Model → List ℕ
bytes_of m = map bool_byte m.values

-- the sheet of that run: its steps, its dives, and the assignment that it ends with
abbrev pub sheet_for : ℕ → List ℤ → List ℕ → (Result ℕ Refusal × List ℕ)
sheet_for v ws out = printed (length (run_on v ws).moves) (dives_in (run_on v ws).moves) v ws (bytes_of (run_on v ws).model) out

-- the sheet of the table that a text spells, or the refusal of the text
abbrev pub sheet_of : List ℕ → Result Problem HeadFault → List ℕ → (Result ℕ Refusal × List ℕ)
sheet_of text (Ok p) out = sheet_for p.variables (text_words text) out
sheet_of text (Err f) out = (Err (head_refusal f), out)

-- a number of bytes, and 0 where there was no room
abbrev pub count_of : (Result ℕ Refusal × List ℕ) → (ℕ × List ℕ)
count_of (Ok n, out) = (n, out)
count_of (Err r, out) = (0, out)

-- a refusal is told by its line
abbrev pub or_line : (Result ℕ Refusal × List ℕ) → (ℕ × List ℕ)
or_line (Ok n, out) = (n, out)
or_line (Err r, out) = count_of (line_for r out)

-- the number of bytes written and the bytes then, where the words table has 5,120 places
abbrev pub answer_to : List ℕ → List ℕ → (ℕ × List ℕ)
answer_to text out = or_line (sheet_of text (read_answer text 5120) out)
