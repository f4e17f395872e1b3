-- What a set of bits has in it.
use Rattle.std.specs.Prelude.{◌≡◌, ℕ, ◌<◌, ◌≤◌, Bool, true, false, cond, ◌==◌}
use Rattle.bitset.specs.declared.set.BitSet.{BitSet}
use Rattle.bitset.specs.Bits.{bit_at, has}

-- the number k is in the set
abbrev pub member : BitSet → ℕ → Bool
member s = has s.words

abbrev pub Empty : BitSet → Type 0
Empty s = (k : ℕ) → member s k ≡ false

-- t is s with k in it or not, as b says
abbrev pub Assigned : ℕ → Bool → BitSet → BitSet → Type 0
Assigned k b s t = (j : ℕ) → member t j ≡ cond (j == k) b (member s j)

-- k is the least number that passes and is not below i
pub record First (p : ℕ → Bool) (i k : ℕ) : Type 0 where
  pub from : i ≤ k
  pub below : k < 1024
  pub passes : p k ≡ true
  pub before : (j : ℕ) → i ≤ j → j < k → p j ≡ false

-- the same of the bits of a word
pub record LowestAt (w i k : ℕ) : Type 0 where
  pub from : i ≤ k
  pub below : k < 64
  pub set : bit_at w k ≡ true
  pub before : (j : ℕ) → i ≤ j → j < k → bit_at w j ≡ false
