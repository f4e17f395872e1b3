-- What clauses say of variables. A variable goes by its place: variable k has the place k − 1.
use Rattle.std.specs.Prelude.{ℕ, zero, suc, pred, ◌+◌, Bool, false, cond, not, ◌||◌, List, [], ◌∷◌, ℤ, pos, negsuc, ◌==◌}
use Rattle.cnf.specs.Tables.{Assignment}

abbrev pub variable_of : ℤ → ℕ
variable_of (pos n) = pred n
variable_of (negsuc x) = x

-- some literal is of the variable x
abbrev pub names : List ℤ → ℕ → Bool
names [] x = false
names (w ∷ ws) x = variable_of w == x || names ws x

-- only the variable x has the other value
abbrev pub flip_at : ℕ → Assignment → Assignment
flip_at x a y = cond (y == x) (not (a y)) (a y)

abbrev pub sum_to : ℕ → (ℕ → ℕ) → ℕ
sum_to zero g = 0
sum_to (suc n) g = sum_to n g + g n

abbrev pub any_to : ℕ → (ℕ → Bool) → Bool
any_to zero p = false
any_to (suc n) p = any_to n p || p n
