-- The model of a search, and what it keeps beside that.
use Rattle.std.specs.Prelude.{◌≡◌, ℕ, ◌<◌, nat_eq}
use Rattle.formula.specs.Formulas.{clause_count}
use Rattle.formula.specs.Occurrences.{passing}
use Rattle.table.specs.Rows.{score_at, changed_at, count_at}
use Rattle.state.specs.declared.search.Search.{Search}
use Rattle.state.specs.Model.{Model, cost, score, total, changed, unsatisfied}
use Rattle.state.specs.Standing.{model_in}

-- what a search stands for
abbrev pub model : Search → Model
model s = model_in s.given s.formula s.table

-- every number that is kept equals its definition: the score and the mark of each variable, the cost, the sum of the weights, and the places of the clauses whose true count is 0
pub record Exact (s : Search) : Type 0 where
  pub scores : (x : ℕ) → x < (model s).variables → score_at s.table x ≡ score (model s) x
  pub marks : (x : ℕ) → x < (model s).variables → changed_at s.table x ≡ changed (model s) x
  pub costs : s.table.cost ≡ cost (model s)
  pub totals : s.table.total ≡ total (model s)
  pub lists : passing (λ k. nat_eq (count_at s.table k) 0) (clause_count s.formula) ≡ unsatisfied (model s)
