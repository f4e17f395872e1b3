use Rattle.std.proofs.Common.{◌+◌, take, sym, ◌∙◌, ap₂, rules}
use Rattle.std.proofs.lemmas.List.{length-take}
use Rattle.formula.proofs.Counts.{count_more, count_le}
use Rattle.table.specs.Rows.{value_at}
use Rattle.table.proofs.table.Table.count_of.Goals as goal

pub overflow_add-n : goal.overflow_add-n
overflow_add-n c =
    let a = value_at c.args.self.now in
    let es = c.args.es.now in
    let m = count_more a es c.loop-e.e-index c.loop-e-test.true in
    let l = count_le a (take (c.loop-e.e-index + 1) es) in
    let k = length-take (c.loop-e.e-index + 1) es in
    let i = c.loop-e.invariant in
    let e = c.true_at-n.ensures in
    search rules

pub loop-e-preserved : goal.loop-e-preserved
loop-e-preserved c = ap₂ ◌+◌ c.loop-e.invariant c.true_at-n.ensures ∙ sym (count_more (value_at c.args.self.now) c.args.es.now c.loop-e.e-index c.loop-e-test.true)
