-- What is said of the rows is a fact: it can hold in one way only.
use Rattle.std.proofs.Common.{◌≡◌, ℕ, ◌<◌, ◌≤◌}
use native.Mathlib.Bridge.{le_prop}
use denote.Struct.Props.{props}
use Rattle.formula.specs.declared.formula.Formula.{Formula}
use Rattle.formula.specs.Entries.{count}
use Rattle.formula.specs.Formulas.{clause_count, entries_of}
use Rattle.table.specs.declared.table.Table.{Table}
use Rattle.table.specs.Rows.{score_in, changed_in, rules_of, value_at, score_at, stamp_at, changed_at, count_at}
use Rattle.table.specs.Sound.{Sound}

pub sound_prop : (f : Formula) (t : Table) → IsProp (Sound f t)
sound_prop f t p q =
    let h : (m n : ℕ) → IsProp (m ≡ n) = hlevel props in
    let counts-prop : IsProp ((k : ℕ) → k < clause_count f → count_at t k ≡ count (value_at t) (entries_of f k)) = hlevel props in
    let scores-prop : IsProp ((y : ℕ) → y < f.variables → score_at t y ≡ score_in (rules_of f t) (value_at t) y) = hlevel props in
    let marks-prop : IsProp ((y : ℕ) → y < f.variables → changed_at t y ≡ changed_in (rules_of f t) f.variables (stamp_at t) y) = hlevel props in
    let stamps-prop : IsProp ((y : ℕ) → y < f.variables → stamp_at t y ≤ t.tick) = hlevel props in
    λ i.
    record {
      light = le_prop p.light q.light i;
      counts = counts-prop p.counts q.counts i;
      scores = scores-prop p.scores q.scores i;
      costs = h _ _ p.costs q.costs i;
      totals = h _ _ p.totals q.totals i;
      marks = marks-prop p.marks q.marks i;
      stamps = stamps-prop p.stamps q.stamps i;
    }
