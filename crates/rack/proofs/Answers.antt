-- The words of a text that was read, and the room that a sheet or a line takes.
use Rattle.std.proofs.Common.{◌≡◌, ℕ, ◌+◌, ◌≤◌, Bool, true, false, cond, leb, List, ◌++◌, length, take, drop, ℤ, Some, None, Ok, Err, Option, Result, refl, ap, ◌∙◌, arith}
use Rattle.std.proofs.lemmas.Bool.{leb-true}
use Rattle.std.proofs.lemmas.List.{take_all, take-append-le}
use Rattle.std.specs.Result.{IfOk, result_unwrap_or}
use Rattle.cnf.specs.declared.refusal.Refusal.{Refusal}
use Rattle.cnf.specs.Scans.{judged}
use Rattle.dimacs.specs.declared.read.Problem.{Problem}
use Rattle.dimacs.specs.Reads.{read_answer, text_words, table_after, read_table}
use Rattle.sheet.specs.Sheets.{fitted, printed, printed_by, is_none}
use Rattle.sheet.specs.Texts.{sheet_text}
use Rattle.sheet.specs.RefusedLines.{line_for, refused_text}
use Rattle.rack.specs.Answers.{count_of}

-- the words of the text stand at the front of the table
pub read_words : (text : List ℕ) (old : List ℤ) (p : Problem) → read_answer text (length old) ≡ Ok p → p.words ≡ length (text_words text) → take p.words (read_table text old) ≡ text_words text
read_words text old p e n =
    ap (λ r. take p.words (table_after r (text_words text) old)) e
    ∙ ap (λ k. take k (text_words text ++ drop (length (text_words text)) old)) n
    ∙ take-append-le (length (text_words text)) (text_words text) (drop (length (text_words text)) old) (omega arith)
    ∙ take_all (length (text_words text)) (text_words text) (omega arith)

-- a number of bytes that was given is at most n
abbrev pub Within : ℕ → (Result ℕ Refusal × List ℕ) → Type 0
Within n (r, out) = IfOk r (λ k. k ≤ n)

fitted_by : (n : ℕ) (bytes out : List ℕ) (t : Bool) → leb n (length out) ≡ t → Within (length out) (fitted (cond t (Some n, bytes) (None, out)))
fitted_by n bytes out true e = leb-true _ _ e
fitted_by n bytes out false e = tt

fitted-within : (n : ℕ) (bytes out : List ℕ) → Within (length out) (fitted (cond (leb n (length out)) (Some n, bytes) (None, out)))
fitted-within n bytes out = fitted_by n bytes out (leb n (length out)) refl

printed_by_lem : (steps dives : ℕ) (a out : List ℕ) (r : Result (Option ℕ) Refusal) → Within (length out) (printed_by steps dives a out r)
printed_by_lem steps dives a out (Ok o) = fitted-within (0 + length (sheet_text steps dives (is_none o) a)) _ out
printed_by_lem steps dives a out (Err e) = tt

pub printed-within : (steps dives v : ℕ) (ws : List ℤ) (a out : List ℕ) → Within (length out) (printed steps dives v ws a out)
printed-within steps dives v ws a out = printed_by_lem steps dives a out (judged v ws a)

pub line_within : (r : Refusal) (out : List ℕ) → Within (length out) (line_for r out)
line_within r out = fitted-within (0 + length (refused_text r)) _ out

-- a count is 0 where nothing was written
pub counted : (r : Result ℕ Refusal) (out : List ℕ) → (result_unwrap_or r 0, out) ≡ count_of (r, out)
counted (Ok n) out = refl
counted (Err e) out = refl

pub counted_within : (n : ℕ) (r : Result ℕ Refusal) (out : List ℕ) → Within n (r, out) → result_unwrap_or r 0 ≤ n
counted_within n (Ok k) out h = h
counted_within n (Err e) out h = omega arith
