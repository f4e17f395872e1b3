use Rattle.std.proofs.Common.{◌+◌, ◌<◌, ◌≤◌, length, get_or, drop, sym, subst}
use Rattle.std.proofs.lemmas.List.{drop_more, drop_all}
use Rattle.formula.specs.Formulas.{entries_of}
use Rattle.formula.specs.Occurrences.{occurring_in}
use Rattle.table.specs.Rows.{Within}
use Rattle.table.specs.Sound.{Midway, Revised}
use Rattle.table.proofs.Whole.{score-within, flipped_end}
use Rattle.table.proofs.Skips.{Left, left_start, left-next, left_more, left_none}
use Rattle.table.proofs.table.Table.flip.Goals as goal

pub loop-i-init : goal.loop-i-init
loop-i-init c =
    let f = c.args.f.now in
    let x = c.args.x in
    let t = c.args.self.now in
    subst (λ xs. Left f x xs t t) (sym (c.requires.occurs.lists x c.requires.x_bound)) (left_start f x t c.requires.sound)

pub revise-requires-clause-midway : goal.revise-requires-clause-midway
revise-requires-clause-midway c =
    let f = c.args.f.now in
    let x = c.args.x in
    let t = c.args.self.now in
    let xs = occurring_in c.args.o.now x in
    let e = c.clauses_of-i-items.ensures in
    let k = c.loop-i.i-index in
    let m = subst (λ ys. k < length ys) e c.loop-i-test.true in
    let h = subst (λ ys. Left f x ys t c.loop-i.self) (drop_more xs k 0 m) c.loop-i.invariant in
    let n = left-next f x (get_or xs k 0) (drop (k + 1) xs) t c.loop-i.self h in
    subst (λ ys. Midway f c.loop-i.self x (get_or ys k 0)) (sym e) n.1.0

pub loop-i-preserved : goal.loop-i-preserved
loop-i-preserved c =
    let f = c.args.f.now in
    let x = c.args.x in
    let t = c.args.self.now in
    let xs = occurring_in c.args.o.now x in
    let e = c.clauses_of-i-items.ensures in
    let k = c.loop-i.i-index in
    let m = subst (λ ys. k < length ys) e c.loop-i-test.true in
    let h = subst (λ ys. Left f x ys t c.loop-i.self) (drop_more xs k 0 m) c.loop-i.invariant in
    left_more f x (get_or xs k 0) (drop (k + 1) xs) t c.loop-i.self c.revise.new.self h
    (subst (λ ys. Midway f c.revise.new.self x (get_or ys k 0 + 1)) e c.revise.ensures.midway)
    (subst (λ ys. Revised (entries_of f (get_or ys k 0)) x c.loop-i.self c.revise.new.self) e c.revise.ensures.revised)

pub turn_row-requires-clause-within : goal.turn_row-requires-clause-within
turn_row-requires-clause-within c = subst Within (sym c.loop-i.invariant.1.0.1.own) (score-within c.args.f.now c.args.self.now c.args.x c.requires.x_bound c.requires.sound)

pub returns : goal.returns
returns c =
    let f = c.args.f.now in
    let x = c.args.x in
    let t = c.args.self.now in
    let u = c.loop-i.self in
    let xs = occurring_in c.args.o.now x in
    let b = left_none f x t u (subst (λ ys. Left f x ys t u) (drop_all c.loop-i.i-index xs (subst (λ ys. length ys ≤ c.loop-i.i-index) c.clauses_of-i-items.ensures c.loop-i-test.false)) c.loop-i.invariant) in
    flipped_end f t u c.turn_row.new.self x c.requires.x_bound c.requires.sound b.0 b.1 c.turn_row.ensures
