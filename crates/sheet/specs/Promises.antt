-- What a sheet tells, in the words of the subject.
use Rattle.std.specs.Prelude.{◌≡◌, ℕ, Bool, cond, List, length, ℤ, Ok, codes}
use Rattle.cnf.specs.Promises.{AllSatisfied}
use Rattle.cnf.specs.Tables.{clauses_of, values_of, first_unsatisfied}
use Rattle.lay.specs.Laid.{laid}
use Rattle.sheet.specs.declared.sheet.Sheet.{Sheet}
use Rattle.sheet.specs.Sheets.{is_none, begun, added_all, closed}
use Rattle.sheet.specs.Texts.{second_line, sheet_text}

-- the assignment satisfies every clause of the table
abbrev pub all_hold : List ℤ → List ℕ → Bool
all_hold ws a = is_none (first_unsatisfied (values_of a) 1 (clauses_of ws))

-- the second line of the bytes is `s SATISFIABLE` exactly when every clause has a true literal, and else `s UNKNOWN`
pub record Tells (ws : List ℤ) (a bytes : List ℕ) : Type 0 where
  pub only : second_line bytes ≡ codes "s SATISFIABLE" → AllSatisfied (values_of a) (clauses_of ws)
  pub every : AllSatisfied (values_of a) (clauses_of ws) → second_line bytes ≡ codes "s SATISFIABLE"
  pub unknown : (AllSatisfied (values_of a) (clauses_of ws) → ⊥) → second_line bytes ≡ codes "s UNKNOWN"

-- the bytes begin with the text of the sheet with the values bs, of n bytes, and are as they were behind it
pub record Left (steps dives v : ℕ) (ws : List ℤ) (a bs out : List ℕ) (n : ℕ) (bytes : List ℕ) : Type 0 where
  pub text : bytes ≡ laid out 0 (sheet_text steps dives (all_hold ws a) bs)
  pub number : n ≡ length (sheet_text steps dives (all_hold ws a) bs)
  pub values : length bs ≡ cond (all_hold ws a) v 0
  pub tells : Tells ws a bytes

-- a sheet begun, values added one after another and a closing, all accepted, leave the text of the sheet
abbrev pub SeriesLeavesText : ℕ → ℕ → ℕ → List ℤ → List ℕ → List ℕ → Type 0
SeriesLeavesText steps dives v ws a out =
    (bs : List ℕ) (s t : Sheet) (first second last : List ℕ) (n : ℕ)
    → begun steps dives v ws a out ≡ (Ok s, first)
    → added_all s bs first ≡ ((t, Ok tt), second)
    → closed t second ≡ (Ok n, last)
    → Left steps dives v ws a bs out n last
