-- The levels of the two policies.
use Rattle.std.specs.Prelude.{cond, ◌&&◌, pos, ◌*ℤ◌, int_lt}
use Rattle.policy.specs.Levels.{Levels}

-- 1 for a changed variable that scores above 0, else 2 where score × clauses is above the total weight, else 0.
abbrev pub cca : Levels
cca z b s c = cond (b && int_lt (pos 0) z) 1 (cond (int_lt (pos s) (z *ℤ pos c)) 2 0)

-- 1 for each score above 0, else 0.
abbrev pub descent : Levels
descent z b s c = cond (int_lt (pos 0) z) 1 0
