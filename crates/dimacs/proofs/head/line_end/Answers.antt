use Rattle.std.proofs.Common.{◌+◌, ◌∙◌, drop, ap, rules}
use borrow.Author.Tests.{tests}
use Rattle.std.specs.Slice.Iter.{iter_rest}
use Rattle.std.proofs.lemmas.Iterator.{YieldsList-from_slice}
use Rattle.std.proofs.lemmas.Iterator.Consumers.{count_from_yields_List}
use Rattle.std.proofs.lemmas.Iterator.Search.{YieldsList-from_take_while}
use Rattle.std.proofs.lemmas.List.Folds.{length-prefix_len}
use Rattle.dimacs.specs.Heads.{in_line}
use Rattle.dimacs.proofs.Heads.{rest_is}
use Rattle.dimacs.proofs.head.line_end.Goals as goal

pub returns-clause-value : goal.returns-clause-value
returns-clause-value c =
    let rest = drop c.args.from c.args.text.now in
    ap (λ n. c.args.from + n) (
    count_from_yields_List c.take_while.result c.count.result c.count.ensures.ran (YieldsList-from_take_while _ in_line (YieldsList-from_slice rest (ap iter_rest c.take_while.ensures.source ∙ c.iter.ensures.rest ∙ rest_is c.args.text.now c.args.from)) c.take_while.ensures.closure c.take_while.ensures.done (λ x b q k. search (rules, tests)))
    ∙ length-prefix_len in_line rest
    )
