-- The bytes of a sheet.
use Rattle.std.specs.Prelude.{ℕ, ◌+◌, Bool, true, false, cond, List, [], ◌∷◌, ◌++◌, codes, decimal, ◌==◌}
use Rattle.lay.specs.Lines.{line_text}

-- the line end before the verdict, the verdict's line and its line end
abbrev pub verdict : Bool → List ℕ
verdict true = 10 ∷ (codes "s SATISFIABLE" ++ (10 ∷ []))
verdict false = 10 ∷ (codes "s UNKNOWN" ++ (10 ∷ []))

-- the steps, the dives and the verdict, in two lines
abbrev pub head_text : ℕ → ℕ → Bool → List ℕ
head_text steps dives sat = line_text (codes "c steps ") steps (codes " dives ") dives (verdict sat)

-- `v` with the first value, a space, and the minus of the value 0
abbrev pub lead_of : Bool → ℕ → List ℕ
lead_of first b = cond first (codes "v") [] ++ (32 ∷ cond (b == 1) [] (codes "-"))

-- the value b of the variable k, as k or −k
abbrev pub value_text : ℕ → ℕ → List ℕ
value_text k b = 32 ∷ (cond (b == 1) [] (codes "-") ++ decimal k)

-- the values of the variables k, k + 1 and so on
abbrev pub values_from : ℕ → List ℕ → List ℕ
values_from k [] = []
values_from k (b ∷ bs) = value_text k b ++ values_from (k + 1) bs

abbrev pub ending : List ℕ
ending = codes " 0" ++ (10 ∷ [])

-- the line of the values
abbrev pub value_line : List ℕ → List ℕ
value_line bs = codes "v" ++ (values_from 1 bs ++ ending)

-- the line of the values where every clause is satisfied, and nothing where that is unknown
abbrev pub value_part : Bool → List ℕ → List ℕ
value_part true bs = value_line bs
value_part false bs = []

-- the whole text of a sheet
abbrev pub sheet_text : ℕ → ℕ → Bool → List ℕ → List ℕ
sheet_text steps dives sat bs = head_text steps dives sat ++ value_part sat bs

-- the bytes up to the first line end, and those behind it
abbrev pub first_line : List ℕ → List ℕ
first_line [] = []
first_line (b ∷ bs) = cond (b == 10) [] (b ∷ first_line bs)

abbrev pub after_line : List ℕ → List ℕ
after_line [] = []
after_line (b ∷ bs) = cond (b == 10) bs (after_line bs)

abbrev pub second_line : List ℕ → List ℕ
second_line bs = first_line (after_line bs)
