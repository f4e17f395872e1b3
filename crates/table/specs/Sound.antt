-- When what the table keeps equals what it stands for.
use Rattle.std.specs.Prelude.{◌≡◌, ℕ, ◌+◌, ◌^◌, ◌<◌, ◌≤◌, Bool, false, cond, not, ◌&&◌, ◌||◌, List, ℤ, pos, ◌+ℤ◌, ◌-ℤ◌, ◌==◌, ◌≢◌, nat_lt, slice_index}
use Rattle.formula.specs.declared.entry.Entry.{Entry}
use Rattle.formula.specs.declared.formula.Formula.{Formula}
use Rattle.formula.specs.Clauses.{sum_to, any_to, flip_at}
use Rattle.formula.specs.Entries.{count, named_in}
use Rattle.formula.specs.Formulas.{clause_count, entries_of}
use Rattle.table.specs.declared.table.ClauseRow.{ClauseRow}
use Rattle.table.specs.declared.table.Table.{Table}
use Rattle.table.specs.Weights.{heavy, share_of, eased}
use Rattle.table.specs.Rows.{Rules, loss, cost_in, score_in, near_in, changed_in, turn, row_at, value_at, score_at, stamp_at, changed_at, clause_at, weight_at, count_at, rules_of, reweighted, gained}

-- every score, mark, true count, the cost and the weights' sum equal their definitions
pub record Sound (f : Formula) (t : Table) : Type 0 where
  pub light : sum_to (clause_count f) (weight_at t) < 2 ^ 40
  pub counts : (k : ℕ) → k < clause_count f → count_at t k ≡ count (value_at t) (entries_of f k)
  pub scores : (y : ℕ) → y < f.variables → score_at t y ≡ score_in (rules_of f t) (value_at t) y
  pub costs : t.cost ≡ cost_in (rules_of f t) (value_at t)
  pub totals : t.total ≡ sum_to (clause_count f) (weight_at t)
  pub marks : (y : ℕ) → y < f.variables → changed_at t y ≡ changed_in (rules_of f t) f.variables (stamp_at t) y
  pub stamps : (y : ℕ) → y < f.variables → stamp_at t y ≤ t.tick

-- the sum of g where the first i terms are those of h
abbrev pub partly : ℕ → ℕ → (ℕ → ℕ) → (ℕ → ℕ) → ℕ
partly n i g h = sum_to n (λ k. cond (nat_lt k i) (h k) (g k))

-- the cost where the first i clauses are read at b, and the others at a
abbrev pub cost_between : Rules → ℕ → (ℕ → Bool) → (ℕ → Bool) → ℕ
cost_between r i a b = partly r.number i (loss r a) (loss r b)

abbrev pub score_between : Rules → ℕ → (ℕ → Bool) → (ℕ → Bool) → ℕ → ℤ
score_between r i a b y = pos (cost_between r i a b) -ℤ pos (cost_between r i (flip_at y a) (flip_at y b))

-- x is to be flipped, and the first i clauses are revised
pub record Midway (f : Formula) (t : Table) (x i : ℕ) : Type 0 where
  pub light : sum_to (clause_count f) (weight_at t) < 2 ^ 40
  pub counts : (k : ℕ) → k < clause_count f → count_at t k ≡ cond (nat_lt k i) (count (flip_at x (value_at t)) (entries_of f k)) (count (value_at t) (entries_of f k))
  pub scores : (y : ℕ) → y < f.variables → (y ≢ x) → score_at t y ≡ score_between (rules_of f t) i (value_at t) (flip_at x (value_at t)) y
  pub costs : t.cost ≡ cost_between (rules_of f t) i (value_at t) (flip_at x (value_at t))
  pub totals : t.total ≡ sum_to (clause_count f) (weight_at t)

-- the clause of the entries es is brought from t's values to those with x flipped, and from weight w to v, for every variable but x
pub record Turned (es : List Entry) (w v x : ℕ) (mark : Bool) (t u : Table) : Type 0 where
  pub same_clauses : u.clauses ≡ t.clauses
  pub same_cost : u.cost ≡ t.cost
  pub same_total : u.total ≡ t.total
  pub same_tick : u.tick ≡ t.tick
  pub values : (y : ℕ) → value_at u y ≡ value_at t y
  pub stamps : (y : ℕ) → stamp_at u y ≡ stamp_at t y
  pub own : score_at u x ≡ score_at t x
  pub scores : (y : ℕ) → (y ≢ x) → score_at u y ≡ score_at t y +ℤ turn w v (value_at t) (flip_at x (value_at t)) es y
  pub marks : (y : ℕ) → changed_at u y ≡ (changed_at t y || ((not (y == x) && named_in es y) && mark))
  pub kept : (y : ℕ) → (not (y == x) && named_in es y) ≡ false → row_at u y ≡ row_at t y

-- what a revision of a clause for a flip of x leaves as it is, and whom it marks
pub record Revised (es : List Entry) (x : ℕ) (t u : Table) : Type 0 where
  pub values : (y : ℕ) → value_at u y ≡ value_at t y
  pub stamps : (y : ℕ) → stamp_at u y ≡ stamp_at t y
  pub weights : (k : ℕ) → weight_at u k ≡ weight_at t k
  pub ticks : u.tick ≡ t.tick
  pub own : score_at u x ≡ score_at t x
  pub marks : (y : ℕ) → changed_at u y ≡ (changed_at t y || (not (y == x) && (named_in es x && named_in es y)))
  pub kept : (y : ℕ) → (not (y == x) && (named_in es x && named_in es y)) ≡ false → row_at u y ≡ row_at t y

-- the same for the first i clauses
pub record Since (f : Formula) (x i : ℕ) (t u : Table) : Type 0 where
  pub values : (y : ℕ) → value_at u y ≡ value_at t y
  pub stamps : (y : ℕ) → stamp_at u y ≡ stamp_at t y
  pub weights : (k : ℕ) → weight_at u k ≡ weight_at t k
  pub ticks : u.tick ≡ t.tick
  pub own : score_at u x ≡ score_at t x
  pub marks : (y : ℕ) → changed_at u y ≡ (changed_at t y || (not (y == x) && any_to i (λ k. named_in (entries_of f k) x && named_in (entries_of f k) y)))
  pub kept : (y : ℕ) → (not (y == x) && any_to i (λ k. named_in (entries_of f k) x && named_in (entries_of f k) y)) ≡ false → row_at u y ≡ row_at t y

-- x is flipped; the rows of all but x and its neighbours are as they were
pub record Flipped (f : Formula) (x : ℕ) (t u : Table) : Type 0 where
  pub sound : Sound f u
  pub values : (y : ℕ) → value_at u y ≡ flip_at x (value_at t) y
  pub stamps : (y : ℕ) → stamp_at u y ≡ cond (y == x) (t.tick + 1) (stamp_at t y)
  pub weights : (k : ℕ) → weight_at u k ≡ weight_at t k
  pub ticks : u.tick ≡ t.tick + 1
  pub others : (y : ℕ) → (y ≢ x) → near_in (rules_of f t) y x ≡ false → row_at u y ≡ row_at t y

-- the clause i has the weight w
pub record Reweighed (f : Formula) (i w : ℕ) (t u : Table) : Type 0 where
  pub sound : Sound f u
  pub values : (y : ℕ) → value_at u y ≡ value_at t y
  pub stamps : (y : ℕ) → stamp_at u y ≡ stamp_at t y
  pub weights : (k : ℕ) → weight_at u k ≡ reweighted (weight_at t) i w k
  pub counts : (k : ℕ) → count_at u k ≡ count_at t k
  pub ticks : u.tick ≡ t.tick

-- the rule that gives such weights makes V of the clauses' rows
abbrev pub Makes : (ClauseRow → ℕ → Type 0) → Formula → Table → (ℕ → ℕ) → Type 0
Makes gives f t V = (k w : ℕ) → k < clause_count f → gives (clause_at t k) w → w ≡ V k

-- the first i clauses have the weights V, and nothing else has changed but scores, cost and the weights' sum
pub record Weighing (f : Formula) (V : ℕ → ℕ) (i : ℕ) (t u : Table) : Type 0 where
  pub sound : Sound f u
  pub values : (y : ℕ) → value_at u y ≡ value_at t y
  pub stamps : (y : ℕ) → stamp_at u y ≡ stamp_at t y
  pub weights : (k : ℕ) → weight_at u k ≡ cond (nat_lt k i) (V k) (weight_at t k)
  pub counts : (k : ℕ) → count_at u k ≡ count_at t k
  pub ticks : u.tick ≡ t.tick

-- the weights after a weighing
abbrev pub weighed_at : Formula → Table → ℕ → ℕ
weighed_at f t k =
    cond (heavy (clause_count f) (sum_to (clause_count f) (gained t)))
    (eased (share_of f.variables (clause_count f) (sum_to (clause_count f) (gained t))) (gained t k))
    (gained t k)

pub record Weighed (f : Formula) (t u : Table) : Type 0 where
  pub sound : Sound f u
  pub values : (y : ℕ) → value_at u y ≡ value_at t y
  pub stamps : (y : ℕ) → stamp_at u y ≡ stamp_at t y
  pub weights : (k : ℕ) → k < clause_count f → weight_at u k ≡ weighed_at f t k
  pub ticks : u.tick ≡ t.tick

-- the first i clauses have their true counts, and no weight
pub record Counted (f : Formula) (i : ℕ) (t : Table) : Type 0 where
  pub weights : (k : ℕ) → k < i → weight_at t k ≡ 0
  pub counts : (k : ℕ) → k < i → count_at t k ≡ count (value_at t) (entries_of f k)

-- a search begins at the start given
pub record Begun (f : Formula) (start : List ℕ) (t : Table) : Type 0 where
  pub sound : Sound f t
  pub values : (y : ℕ) → y < f.variables → value_at t y ≡ (slice_index start y == 1)
  pub stamps : (y : ℕ) → y < f.variables → stamp_at t y ≡ 0
  pub weights : (k : ℕ) → k < clause_count f → weight_at t k ≡ 1
  pub ticks : t.tick ≡ 0
