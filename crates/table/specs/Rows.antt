-- What the rows hold.
use Rattle.std.specs.Prelude.{◌≡◌, ℕ, ◌+◌, ◌-◌, ◌^◌, Bool, true, false, cond, not, ◌&&◌, ◌||◌, List, get_or, ℤ, pos, ◌+ℤ◌, ◌-ℤ◌, neg_ℤ, ◌<ℤ◌, ◌==◌, nat_lt, slice_index_or, slice_set}
use Rattle.formula.specs.declared.entry.Entry.{Entry}
use Rattle.formula.specs.declared.formula.Formula.{Formula}
use Rattle.formula.specs.Clauses.{sum_to, any_to, flip_at}
use Rattle.formula.specs.Entries.{trues, count, named_in}
use Rattle.formula.specs.Formulas.{clause_count, entries_of}
use Rattle.table.specs.Weights.{eased}
use Rattle.table.specs.declared.table.Row.{Row}
use Rattle.table.specs.declared.table.ClauseRow.{ClauseRow}
use Rattle.table.specs.declared.table.Table.{Table}

-- what a clause with n true literals adds to the score of a variable with t true and f false ones in it
abbrev pub gain_z : ℕ → ℕ → ℕ → ℕ → ℤ
gain_z w n t f = pos (cond (n == 0) w 0) -ℤ pos (cond ((n - t) + f == 0) w 0)

-- by how much that changes where the clause's row does
unfoldable pub shift_z : ClauseRow → ClauseRow → Bool → Entry → ℤ
shift_z c d v e = gain_z d.weight d.count (trues v e) (trues (not v) e) -ℤ gain_z c.weight c.count (trues v e) (trues (not v) e)

-- what a clause of the weight w costs
abbrev pub loss_at : ℕ → (ℕ → Bool) → List Entry → ℕ
loss_at w a es = cond (count a es == 0) w 0

-- by how much a clause's share of the score of y changes where a becomes b and its weight w becomes u
unfoldable pub turn : ℕ → ℕ → (ℕ → Bool) → (ℕ → Bool) → List Entry → ℕ → ℤ
turn w u a b es y = (pos (loss_at u b es) -ℤ pos (loss_at u (flip_at y b) es)) -ℤ (pos (loss_at w a es) -ℤ pos (loss_at w (flip_at y a) es))

abbrev pub row0 : Row
row0 = record { value = false; score = pos 0; stamp = 0; changed = false }

abbrev pub clause0 : ClauseRow
clause0 = record { weight = 0; count = 0 }

abbrev pub row_at : Table → ℕ → Row
row_at t y = slice_index_or t.rows y row0

abbrev pub value_at : Table → ℕ → Bool
value_at t y = (row_at t y).value

abbrev pub score_at : Table → ℕ → ℤ
score_at t y = (row_at t y).score

abbrev pub stamp_at : Table → ℕ → ℕ
stamp_at t y = (row_at t y).stamp

abbrev pub changed_at : Table → ℕ → Bool
changed_at t y = (row_at t y).changed

abbrev pub clause_at : Table → ℕ → ClauseRow
clause_at t i = get_or t.clauses i clause0

abbrev pub weight_at : Table → ℕ → ℕ
weight_at t i = (get_or t.clauses i clause0).weight

abbrev pub count_at : Table → ℕ → ℕ
count_at t i = (get_or t.clauses i clause0).count

-- clauses as entries, with their weights
pub record Rules : Type 0 where
  pub number : ℕ
  pub entries : ℕ → List Entry
  pub weight : ℕ → ℕ

abbrev pub loss : Rules → (ℕ → Bool) → ℕ → ℕ
loss r a i = loss_at (r.weight i) a (r.entries i)

abbrev pub cost_in : Rules → (ℕ → Bool) → ℕ
cost_in r a = sum_to r.number (loss r a)

abbrev pub score_in : Rules → (ℕ → Bool) → ℕ → ℤ
score_in r a x = pos (cost_in r a) -ℤ pos (cost_in r (flip_at x a))

abbrev pub near_in : Rules → ℕ → ℕ → Bool
near_in r x y = not (x == y) && any_to r.number (λ i. named_in (r.entries i) x && named_in (r.entries i) y)

abbrev pub changed_in : Rules → ℕ → (ℕ → ℕ) → ℕ → Bool
changed_in r v stamp x = stamp x == 0 || any_to v (λ y. near_in r x y && nat_lt (stamp x) (stamp y))

abbrev pub rules_with : Formula → (ℕ → ℕ) → Rules
rules_with f w = record { number = clause_count f; entries = entries_of f; weight = w }

abbrev pub rules_of : Formula → Table → Rules
rules_of f t = rules_with f (weight_at t)

-- far from the limits of 64 bits
abbrev pub Within : ℤ → Type 0
Within z = (pos 0 <ℤ (z +ℤ pos (2 ^ 50))) × (z <ℤ pos (2 ^ 50))

-- u is t with d added to the score of y, and y marked if `mark`
pub record Bumped (y : ℕ) (d : ℤ) (mark : Bool) (t u : Table) : Type 0 where
  pub rows : u.rows ≡ slice_set t.rows y (record { value = (row_at t y).value; score = (row_at t y).score +ℤ d; stamp = (row_at t y).stamp; changed = (row_at t y).changed || mark })
  pub clauses : u.clauses ≡ t.clauses
  pub cost : u.cost ≡ t.cost
  pub total : u.total ≡ t.total
  pub tick : u.tick ≡ t.tick

-- what a clause of this row costs
abbrev pub owed : ClauseRow → ℕ
owed c = cond (c.count == 0) c.weight 0

-- u is t with the row c for the clause i
pub record Settled (i : ℕ) (c : ClauseRow) (t u : Table) : Type 0 where
  pub rows : u.rows ≡ t.rows
  pub clauses : u.clauses ≡ slice_set t.clauses i c
  pub cost : u.cost ≡ (t.cost - owed (slice_index_or t.clauses i clause0)) + owed c
  pub total : u.total ≡ (t.total - weight_at t i) + c.weight
  pub tick : u.tick ≡ t.tick

-- u is t with the row of x as it is after a flip of x
pub record TurnedRow (x : ℕ) (t u : Table) : Type 0 where
  pub rows : u.rows ≡ slice_set t.rows x (record { value = not (row_at t x).value; score = neg_ℤ (row_at t x).score; stamp = t.tick + 1; changed = false })
  pub clauses : u.clauses ≡ t.clauses
  pub cost : u.cost ≡ t.cost
  pub total : u.total ≡ t.total
  pub tick : u.tick ≡ t.tick + 1

abbrev pub row_from : ℕ → Row
row_from b = record { value = (b == 1); score = pos 0; stamp = 0; changed = true }

-- the weights where each unsatisfied clause has gained 1
abbrev pub gained : Table → ℕ → ℕ
gained t k = weight_at t k + cond (count_at t k == 0) 1 0

-- the weights after smoothing
abbrev pub eased_at : Table → ℕ → ℕ → ℕ
eased_at t share k = eased share (weight_at t k)

-- the clause i gets the weight w
abbrev pub reweighted : (ℕ → ℕ) → ℕ → ℕ → ℕ → ℕ
reweighted W i w k = cond (k == i) w (W k)
