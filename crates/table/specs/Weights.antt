-- When weights are smoothed, and what smoothing makes of them.
use Rattle.std.specs.Prelude.{ℕ, ◌+◌, ◌*◌, ◌/◌, Bool, cond, nat_le, nat_lt}

-- n weights of the sum s are more than 300 on average
abbrev pub heavy : ℕ → ℕ → Bool
heavy n s = nat_lt (300 * n) s

-- the part of the sum s that smoothing gives to each of n clauses over v variables
abbrev pub share_of : ℕ → ℕ → ℕ → ℕ
share_of v n s = cond (nat_le n (15 * v)) 0 7 * s / (10 * n)

-- the weight w after smoothing, where each clause gets the share
abbrev pub eased : ℕ → ℕ → ℕ
eased share w = 3 * w / 10 + share
