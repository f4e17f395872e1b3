use Rattle.std.proofs.Common.{◌≡◌, ◌<◌, ℤ, pos, ◌+ℤ◌, ◌≤ℤ◌, ◌∙◌, arith, w32, w64, to_z, of_z, rules}
use Rattle.table.specs.Rows.{row_at}
use Rattle.state.proofs.Facts.{keeps}
use Rattle.std.proofs.lemmas.Int.{ints}
use Rattle.state.proofs.Models.{score_is}
use Rattle.state.proofs.Asks.{score_small}
use Rattle.state.proofs.search.Search.score.Goals as goal

small_same : (z : ℤ) → pos 0 ≤ℤ (z +ℤ pos 1024001024) → z ≤ℤ pos 1024001024 → to_z w32 (of_z w32 (to_z w64 (of_z w64 z))) ≡ z
small_same z a b = omega (arith, ints)

pub offset_bounds-self-x : goal.offset_bounds-self-x
offset_bounds-self-x c =
    let h : c.args.x < 256 = omega (arith, c.args.self.now.formula.made.few_variables, c.requires) in
    search rules

pub bounds-self-x : goal.bounds-self-x
bounds-self-x c =
    let h : c.args.x < 256 = omega (arith, c.args.self.now.formula.made.few_variables, c.requires) in
    search rules

pub overflow_cast-result : goal.overflow_cast-result
overflow_cast-result c =
    let s = c.args.self.now in
    let h = score_small s.given s.formula s.occurrences s.table (keeps s) c.args.x c.requires in
    omega (arith, ints)

pub returns : goal.returns
returns c =
    let s = c.args.self.now in
    let k = keeps s in
    let h = score_small s.given s.formula s.occurrences s.table k c.args.x c.requires in
    small_same (row_at s.table c.args.x).score h.0 h.1
    ∙ score_is s.given s.formula s.occurrences s.table k c.args.x c.requires
