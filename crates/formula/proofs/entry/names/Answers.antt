use Rattle.std.proofs.Common.{eqb, ◌||◌, refl, ◌∙◌, rules, tests}
use Rattle.std.proofs.lemmas.Iterator.{YieldsList-from_slice}
use Rattle.std.proofs.lemmas.Iterator.Search.{any_from_yields_List}
use Rattle.std.proofs.lemmas.List.Recursion.{same_from_clauses}
use Rattle.std.specs.List.{list_any}
use Rattle.formula.specs.declared.entry.Entry.{Entry}
use Rattle.formula.specs.Entries.{named_in}
use Rattle.formula.proofs.entry.names.Goals as goal

pub returns : goal.returns
returns c =
    let es = c.args.es.now in
    any_from_yields_List (λ (e : Entry). eqb e.variable c.args.variable) _ _ _ c.any.ensures.ran (YieldsList-from_slice es cc) (λ x b q k. search (rules, tests))
    ∙ same_from_clauses (list_any (λ (e : Entry). eqb e.variable c.args.variable)) (λ xs. named_in xs c.args.variable) (λ (e : Entry) b. eqb e.variable c.args.variable || b) refl (λ _ _. refl) (λ _ _. refl) es
