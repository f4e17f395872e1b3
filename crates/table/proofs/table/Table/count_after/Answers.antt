use Rattle.std.proofs.Common.{refl, ◌∙◌, rules}
use Rattle.std.proofs.lemmas.Bool.{or_from, ne_eqb}
use Rattle.formula.proofs.Counts.{count_le, named_more}
use Rattle.table.proofs.Shares.{after_le, after_is, after_named}
use Rattle.formula.specs.Clauses.{flip_at}
use Rattle.table.specs.Rows.{value_at}
use Rattle.table.proofs.table.Table.count_after.Goals as goal

pub overflow_sub-result : goal.overflow_sub-result
overflow_sub-result c = after_le (value_at c.args.self.now) c.args.es.now c.loop-e.e-index c.args.x c.args.before c.true_at.result _ c.loop-e-test.true c.requires.es_len_bound.1 c.if-e-x.true c.requires.count_value c.true_at.ensures refl

pub overflow_add-result : goal.overflow_add-result
overflow_add-result c =
    let n = count_le (flip_at c.args.x (value_at c.args.self.now)) c.args.es.now in
    let e = after_is (value_at c.args.self.now) c.args.es.now c.loop-e.e-index c.args.x c.args.before c.true_at.result c.true_at-then-e-x.result c.loop-e-test.true c.requires.es_len_bound.1 c.if-e-x.true c.requires.count_value c.true_at.ensures c.true_at-then-e-x.ensures in
    search rules

pub returns-then-e-x : goal.returns-then-e-x
returns-then-e-x c = (
  after_named (value_at c.args.self.now) c.args.es.now c.loop-e.e-index c.args.x c.args.before c.true_at.result c.true_at-then-e-x.result c.loop-e-test.true c.requires.es_len_bound.1 c.if-e-x.true c.requires.count_value c.true_at.ensures c.true_at-then-e-x.ensures,
  after_is (value_at c.args.self.now) c.args.es.now c.loop-e.e-index c.args.x c.args.before c.true_at.result c.true_at-then-e-x.result c.loop-e-test.true c.requires.es_len_bound.1 c.if-e-x.true c.requires.count_value c.true_at.ensures c.true_at-then-e-x.ensures,
)

pub loop-e-preserved : goal.loop-e-preserved
loop-e-preserved c = named_more c.args.es.now c.loop-e.e-index c.args.x c.loop-e-test.true ∙ or_from _ _ c.loop-e.invariant (ne_eqb _ _ c.if-e-x.false)
