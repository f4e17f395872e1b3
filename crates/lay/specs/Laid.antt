-- Bytes laid into a list from a place on.
use Rattle.std.specs.Prelude.{ℕ, ◌+◌, cond, List, ◌++◌, length, take, drop, Some, None, Option, nat_le}

-- out with bs from at on, and all else as it was
abbrev pub laid : List ℕ → ℕ → List ℕ → List ℕ
laid out at bs = take at out ++ (bs ++ drop (at + length bs) out)

-- the place after bs and the bytes then; or none, and the bytes as they were, where bs does not fit
abbrev pub put : List ℕ → ℕ → List ℕ → (Option ℕ × List ℕ)
put out at bs = cond (nat_le (at + length bs) (length out)) (Some (at + length bs), laid out at bs) (None, out)
