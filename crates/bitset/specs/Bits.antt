-- The bits of words.
use Rattle.std.specs.Prelude.{ℕ, ◌/◌, ◌%◌, ◌^◌, Bool, List, ◌==◌, slice_index}

-- the word's bit at the place j is set
abbrev pub bit_at : ℕ → ℕ → Bool
bit_at w j = w / 2 ^ j % 2 == 1

-- the words' bit for the number k is set
unfoldable pub has : List ℕ → ℕ → Bool
has ws k = bit_at (slice_index ws (k / 64)) (k % 64)
