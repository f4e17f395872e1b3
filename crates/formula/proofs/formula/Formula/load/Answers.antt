use Rattle.std.proofs.Common.{refl}
use Rattle.formula.proofs.Split.{loading_start, loading_more, loading_end}
use Rattle.formula.proofs.formula.Formula.load.Goals as goal

pub loop-clause-init : goal.loop-clause-init
loop-clause-init c = loading_start c.args.variables c.args.words.now _ c.requires refl c.clear.ensures c.clear-2.ensures

pub loop-clause-preserved : goal.loop-clause-preserved
loop-clause-preserved c = loading_more c.args.variables c.args.words.now c.loop-clause.rest.now c.loop-clause.self c.loop-clause.invariant c.in-Some.clause.now c.in-Some.behind.now c.in-Some.ensures c.add_clause.new.self c.add_clause.ensures

pub returns : goal.returns
returns c = loading_end c.args.variables c.args.words.now c.loop-clause.rest.now c.loop-clause.self c.loop-clause.invariant c.in_default.ensures
