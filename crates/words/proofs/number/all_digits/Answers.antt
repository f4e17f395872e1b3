use Rattle.std.proofs.Common.{◌∙◌, sym, rules}
use borrow.Author.Tests.{tests}
use Rattle.std.proofs.lemmas.Iterator.{YieldsList-from_slice}
use Rattle.std.proofs.lemmas.Iterator.Search.{all_from_yields_List}
use Rattle.words.specs.Numbers.{within}
use Rattle.words.proofs.Numbers.{digits_all}
use Rattle.words.proofs.number.all_digits.Goals as goal

pub returns : goal.returns
returns c = all_from_yields_List (within 48 57) _ _ _ c.all.ensures.ran (YieldsList-from_slice c.args.bytes.now cc) (λ x b q k. search (rules, tests)) ∙ sym (digits_all c.args.bytes.now)
