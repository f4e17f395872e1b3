use Rattle.std.proofs.Common.{◌≡◌, ℕ, ◌≤◌, true, false, get_or, ◌+ℤ◌, sym, ap, ◌∙◌, subst, arith}
use Rattle.formula.specs.Clauses.{flip_at}
use Rattle.formula.specs.Entries.{count, named_in}
use Rattle.table.specs.Rows.{clause0, turn, Within, value_at, score_at, weight_at}
use Rattle.table.specs.Sound.{Turned}
use Rattle.table.proofs.Reweighs.{count_still, next-within, cost_small, cost_room, total_room, total_small, reweighed}
use Rattle.table.proofs.table.Table.reweigh.Goals as goal

pub revise_entries-requires-clause-count_value : goal.revise_entries-requires-clause-count_value
revise_entries-requires-clause-count_value c =
    let f = c.args.f.now in
    let t = c.args.self.now in
    let e = sym c.entries_of.ensures in
    let s = c.requires.sound in
    (s.counts c.args.i c.requires.i_bound ∙ ap (count (value_at t)) e, count_still f t c.args.i c.args.weight c.requires.i_bound s c.requires.light ∙ ap (count (flip_at 256 (value_at t))) e)

pub revise_entries-requires-clause-by_index : goal.revise_entries-requires-clause-by_index
revise_entries-requires-clause-by_index c =
    let f = c.args.f.now in
    let t = c.args.self.now in
    subst (λ es. (y : ℕ) → (y ≡ 256 → ⊥) → named_in es y ≡ true → Within (score_at t y +ℤ turn (weight_at t c.args.i) c.args.weight (value_at t) (flip_at 256 (value_at t)) es y)) (sym c.entries_of.ensures)
    (next-within f t c.args.i c.args.weight c.requires.i_bound c.requires.sound c.requires.light)

pub settle-requires-clause-cost : goal.settle-requires-clause-cost
settle-requires-clause-cost c =
    let f = c.args.f.now in
    let t = c.args.self.now in
    let u = c.revise_entries.new.self in
    let h = c.revise_entries.ensures in (
      subst (λ cs. (get_or cs c.args.i clause0).count ≡ 0 → (get_or cs c.args.i clause0).weight ≤ u.cost) (sym h.same_clauses)
          (λ z. omega (arith, h.same_cost, cost_room f t c.args.i c.args.weight c.requires.i_bound c.requires.sound c.requires.light z)),
      omega (arith, h.same_cost, cost_small f t c.args.i c.args.weight c.requires.i_bound c.requires.sound c.requires.light),
    )

pub settle-requires-clause-total : goal.settle-requires-clause-total
settle-requires-clause-total c =
    let f = c.args.f.now in
    let t = c.args.self.now in
    let u = c.revise_entries.new.self in
    let h = c.revise_entries.ensures in (
      subst (λ cs. (get_or cs c.args.i clause0).weight ≤ u.total) (sym h.same_clauses) (omega (arith, h.same_total, total_room f t c.args.i c.args.weight c.requires.i_bound c.requires.sound c.requires.light)),
      omega (arith, h.same_total, total_small f t c.args.i c.args.weight c.requires.i_bound c.requires.sound c.requires.light),
    )

pub returns-then-weight-before : goal.returns-then-weight-before
returns-then-weight-before c =
    let f = c.args.f.now in
    let t = c.args.self.now in
    let i = c.args.i in
    let u = c.revise_entries.new.self in
    let h = subst (λ es. Turned es (weight_at t i) c.args.weight 256 false t u) c.entries_of.ensures c.revise_entries.ensures in
    reweighed f t i c.args.weight c.requires.i_bound c.requires.sound c.requires.light u h c.settle.new.self c.settle.ensures
