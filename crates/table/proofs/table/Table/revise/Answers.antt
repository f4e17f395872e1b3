use Rattle.std.proofs.Common.{◌≡◌, ℕ, ◌≤◌, true, get_or, ◌+ℤ◌, sym, ap, ◌∙◌, subst, arith}
use Rattle.formula.specs.Clauses.{flip_at}
use Rattle.formula.specs.Entries.{count, named_in}
use Rattle.table.specs.Rows.{clause0, turn, Within, value_at, score_at, weight_at}
use Rattle.table.specs.Sound.{Turned}
use Rattle.table.proofs.Step.{next-within, cost_small, cost_room, total_room, total_small, step_off, revised_off, step_on, revised_on}
use Rattle.table.proofs.table.Table.revise.Goals as goal

pub revise_entries-requires-clause-by_index : goal.revise_entries-requires-clause-by_index
revise_entries-requires-clause-by_index c =
    let f = c.args.f.now in
    let t = c.args.self.now in
    let x = c.args.x in
    let w = weight_at t c.args.i in
    subst (λ es. (y : ℕ) → (y ≡ x → ⊥) → named_in es y ≡ true → Within (score_at t y +ℤ turn w w (value_at t) (flip_at x (value_at t)) es y)) (sym c.entries_of-es.ensures)
    (next-within f t x c.args.i c.requires.i_bound c.requires.midway)

pub settle-requires-clause-cost : goal.settle-requires-clause-cost
settle-requires-clause-cost c =
    let f = c.args.f.now in
    let t = c.args.self.now in
    let u = c.revise_entries.new.self in
    let h = c.revise_entries.ensures in (
      subst (λ cs. (get_or cs c.args.i clause0).count ≡ 0 → (get_or cs c.args.i clause0).weight ≤ u.cost) (sym h.same_clauses)
          (λ z. omega (arith, h.same_cost, cost_room f t c.args.x c.args.i c.requires.i_bound c.requires.midway z)),
      omega (arith, h.same_cost, cost_small f t c.args.x c.args.i c.requires.i_bound c.requires.midway),
    )

pub settle-requires-clause-total : goal.settle-requires-clause-total
settle-requires-clause-total c =
    let f = c.args.f.now in
    let t = c.args.self.now in
    let u = c.revise_entries.new.self in
    let h = c.revise_entries.ensures in (
      subst (λ cs. (get_or cs c.args.i clause0).weight ≤ u.total) (sym h.same_clauses) (omega (arith, h.same_total, total_room f t c.args.x c.args.i c.requires.i_bound c.requires.midway)),
      omega (arith, h.same_total, total_small f t c.args.x c.args.i c.requires.i_bound c.requires.midway),
    )

pub returns-in-Some : goal.returns-in-Some
returns-in-Some c =
    let f = c.args.f.now in
    let t = c.args.self.now in
    let i = c.args.i in
    let x = c.args.x in
    let u = c.revise_entries.new.self in
    let v = c.settle.new.self in
    let e = c.entries_of-es.ensures in
    let h = subst (λ es. Turned es (weight_at t i) (weight_at t i) x true t u) e c.revise_entries.ensures in
    let is = c.in-Some.ensures.1 ∙ ap (count (flip_at x (value_at t))) e in
    record {
      midway = step_on f t x i c.requires.i_bound c.requires.midway u c.in-Some.count is h v c.settle.ensures;
      revised = revised_on f t x i c.requires.i_bound c.requires.midway u c.in-Some.count is h v c.settle.ensures (ap (λ es. named_in es x) (sym e) ∙ c.in-Some.ensures.0);
    }

pub returns-in_default : goal.returns-in_default
returns-in_default c =
    let f = c.args.f.now in
    let t = c.args.self.now in
    let off = ap (λ es. named_in es c.args.x) (sym c.entries_of-es.ensures) ∙ c.in_default.ensures in
    record {
      midway = step_off f t c.args.x c.args.i c.requires.i_bound c.requires.midway off;
      revised = revised_off f t c.args.x c.args.i c.requires.i_bound c.requires.midway off;
    }
