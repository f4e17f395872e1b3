-- What questions answer.
use Rattle.std.proofs.Common.{ℕ, ◌<◌, ◌≤◌, length, get_or, pos, ◌+ℤ◌, ◌≤ℤ◌, arith}
use Rattle.std.proofs.lemmas.Int.{ints}
use Rattle.formula.specs.declared.formula.Formula.{Formula}
use Rattle.formula.specs.declared.given.Given.{Given}
use Rattle.formula.specs.declared.occurrences.Occurrences.{Occurrences}
use Rattle.formula.specs.Clauses.{flip_at}
use Rattle.formula.specs.Entries.{entry0}
use Rattle.formula.specs.Formulas.{clause_count, entries_of}
use Rattle.formula.proofs.Counts.{named_at, named_small}
use Rattle.table.specs.declared.table.Table.{Table}
use Rattle.state.specs.Model.{Model}
use Rattle.table.specs.Rows.{rules_of, row_at, value_at}
use Rattle.state.specs.Standing.{model_in, Kept}
use Rattle.table.proofs.Reweighs.{cost_le_sum}

module _ (g : Given) (f : Formula) (o : Occurrences) (t : Table) (kept : Kept g f o t) where
  abbrev m : Model
  m = model_in g f t

  pub cost_small : t.cost ≤ 1024001024
  cost_small = omega (arith, kept.sound.costs, cost_le_sum (rules_of f t) (value_at t), kept.sound.totals, kept.limited)

  pub score_small : (x : ℕ) → x < f.variables → (pos 0 ≤ℤ ((row_at t x).score +ℤ pos 1024001024)) × ((row_at t x).score ≤ℤ pos 1024001024)
  score_small x l =
      let e = kept.sound.scores x l in
      let a = cost_le_sum (rules_of f t) (value_at t) in
      let b = cost_le_sum (rules_of f t) (flip_at x (value_at t)) in
      let s = kept.sound.totals in
      let h = kept.limited in
      (omega (arith, ints), omega (arith, ints))

  -- each entry of a clause is of one of the variables
  pub names_below : (i : ℕ) → i < clause_count f → (j : ℕ) → j < length (entries_of f i) → (get_or (entries_of f i) j entry0).variable < f.variables
  names_below i l j h = named_small f.variables (entries_of f i) (get_or (entries_of f i) j entry0).variable (f.made.signed i l) (named_at (entries_of f i) j h)
