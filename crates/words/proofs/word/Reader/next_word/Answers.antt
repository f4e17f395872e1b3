use Rattle.std.proofs.Common.{◌≡◌, ◌+◌, ◌∙◌, drop, sym, refl, ap, rules}
use borrow.Author.Tests.{tests}
use Rattle.std.specs.Slice.Iter.{iter_rest}
use Rattle.std.proofs.lemmas.Iterator.{YieldsList-from_slice}
use Rattle.std.proofs.lemmas.Iterator.Consumers.{count_from_yields_List}
use Rattle.std.proofs.lemmas.Iterator.Search.{YieldsList-from_take_while}
use Rattle.std.proofs.lemmas.List.Folds.{length-prefix_len}
use Rattle.words.specs.Words.{white, dark, skipped, letters}
use Rattle.words.proofs.Mets.{met_by}
use Rattle.words.proofs.Steps.{Bounds, rest_is, end_is, none_is, number_is, name_is}
use Rattle.words.proofs.word.Reader.next_word.Goals as goal
use Rattle.words.proofs.word.Reader.next_word.Goals.{After-count-letters}

bounds : (c : After-count-letters) → Bounds c.args.self.now.text.now c.args.self.now.pos (c.args.self.now.pos + c.count-skipped.result) (c.args.self.now.pos + c.count-skipped.result + c.count-letters.result)
bounds c =
    let spaces = drop c.args.self.now.pos c.args.self.now.text.now in
    let others = drop (c.args.self.now.pos + c.count-skipped.result) c.args.self.now.text.now in
    let s : c.count-skipped.result ≡ skipped spaces = count_from_yields_List c.take_while.result c.count-skipped.result c.count-skipped.ensures.ran (YieldsList-from_take_while _ white (YieldsList-from_slice spaces (ap iter_rest c.take_while.ensures.source ∙ c.iter.ensures.rest ∙ rest_is c.args.self.now.text.now c.args.self.now.pos)) c.take_while.ensures.closure c.take_while.ensures.done (λ x b q k. search (rules, tests))) ∙ length-prefix_len white spaces in
    let l : c.count-letters.result ≡ letters others = count_from_yields_List c.take_while-2.result c.count-letters.result c.count-letters.ensures.ran (YieldsList-from_take_while _ dark (YieldsList-from_slice others (ap iter_rest c.take_while-2.ensures.source ∙ c.iter-2.ensures.rest ∙ rest_is c.args.self.now.text.now (c.args.self.now.pos + c.count-skipped.result))) c.take_while-2.ensures.closure c.take_while-2.ensures.done (λ x b q k. search (rules, tests))) ∙ length-prefix_len dark others in
    record { within = search rules; from = ap (λ n. c.args.self.now.pos + n) s; to = ap (λ n. c.args.self.now.pos + c.count-skipped.result + n) l }

pub returns-then-start-end : goal.returns-then-start-end
returns-then-start-end c =
    let b = bounds (goal.at.returns-then-start-end c).After-count-letters in
    let w = none_is b c.if-start-end.true in
    record { word = w; text = refl; pos = end_is b; met = met_by _ _ _ refl w (end_is b) }

pub returns-then-is_number : goal.returns-then-is_number
returns-then-is_number c =
    let b = bounds (goal.at.returns-then-is_number c).After-count-letters in
    let w = number_is b c.if-start-end.false (sym c.if-is_number.ensures) in
    record { word = w; text = refl; pos = end_is b; met = met_by _ _ _ refl w (end_is b) }

pub returns-else-is_number : goal.returns-else-is_number
returns-else-is_number c =
    let b = bounds (goal.at.returns-else-is_number c).After-count-letters in
    let w = name_is b c.if-start-end.false (sym c.if-is_number.ensures) in
    record { word = w; text = refl; pos = end_is b; met = met_by _ _ _ refl w (end_is b) }
