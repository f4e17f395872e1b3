use Rattle.std.proofs.Common.{ap₂, refl, suc, ◌∙◌, rules, tests, int_eq, ℤ, pos, negsuc}
use Rattle.std.proofs.lemmas.Iterator.{YieldsList-from_slice}
use Rattle.std.proofs.lemmas.Iterator.Search.{any_from_yields_List}
use Rattle.formula.proofs.Signs.{any_plain, any_negated}
use Rattle.formula.proofs.entry.entry_of.Goals as goal

pub returns : goal.returns
returns c =
    let v = c.args.variable in
    let ws = c.args.clause.now in
    ap₂ (λ p n. record { variable = v; plain = p; negated = n })
    (any_from_yields_List (λ (w : ℤ). int_eq w (pos (suc v))) _ _ _ c.any.ensures.ran (YieldsList-from_slice ws cc) (λ x b q k. search (rules, tests)) ∙ any_plain v (pos (suc v)) ws refl)
    (any_from_yields_List (λ (w : ℤ). int_eq w (negsuc v)) _ _ _ c.any-2.ensures.ran (YieldsList-from_slice ws cc) (λ x b q k. search (rules, tests)) ∙ any_negated v (negsuc v) ws refl)
