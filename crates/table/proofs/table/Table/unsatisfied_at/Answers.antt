use Rattle.std.proofs.Common.{◌≡◌, ℕ, ◌<◌, ◌≤◌, Bool, List, Option, Some, None, eqb, length, get_or, take, filter, Bor, sym, refl, ap, ◌∙◌, rules, tests, arith}
use Rattle.std.specs.List.{enumerate_from, slice_get}
use Rattle.std.specs.Option.{option_map, is_some, unwrap_or}
use Rattle.std.proofs.lemmas.Iterator.{YieldsList-from_slice}
use Rattle.std.proofs.lemmas.Iterator.Consumers.{YieldsList-from_enumerate, YieldsList-from_filter, nth_from_yields_List}
use Rattle.std.proofs.lemmas.Option.{slice_get-map, slice_get-get_or}
use Rattle.formula.specs.Occurrences.{passing}
use Rattle.formula.proofs.Passing.{passing-enumerated}
use Rattle.table.specs.declared.table.ClauseRow.{ClauseRow}
use Rattle.table.specs.Rows.{clause0}
use Rattle.table.proofs.table.Table.unsatisfied_at.Goals as goal

-- the row of an item, and its place
abbrev item : ℕ × Bor ClauseRow → ℕ × ClauseRow
item p = (p.0, p.1.now)

abbrev place : ℕ × ClauseRow → ℕ
place p = p.0

same : (r : Option (ℕ × Bor ClauseRow)) → is_some (option_map place (option_map item r)) ≡ is_some r
same None = refl
same (Some x) = refl

-- whether a row has no true literal
abbrev none_true : ℕ × ClauseRow → Bool
none_true e = eqb e.1.count 0

found : (r : Option (ℕ × Bor ClauseRow)) (cs : List ClauseRow) (n k : ℕ) → n ≤ length cs → k < length (passing (λ i. eqb (get_or cs i clause0).count 0) n) → option_map item r ≡ slice_get (filter none_true (enumerate_from 0 (take n cs))) k → option_map place (option_map item r) ≡ Some (get_or (passing (λ i. eqb (get_or cs i clause0).count 0) n) k 0)
found r cs n k few inside e =
    ap (option_map place) e
    ∙ (sym (slice_get-map place (filter none_true (enumerate_from 0 (take n cs))) k)
    ∙ (ap (λ ks. slice_get ks k) (passing-enumerated (λ (r : ClauseRow). eqb r.count 0) cs clause0 n few)
    ∙ slice_get-get_or (passing (λ i. eqb (get_or cs i clause0).count 0) n) k 0 inside))

pub unwrap-requires : goal.unwrap-requires
unwrap-requires c =
    let cs = c.args.self.now.clauses in
    let n = c.args.clauses in
    sym (same c.nth.result)
    ∙ ap is_some (found c.nth.result cs n c.args.place (omega (arith, c.args.self.now.clause_size)) c.requires.inside
    (nth_from_yields_List c.nth.result _ c.args.place c.nth.ensures.ran (YieldsList-from_filter _ none_true (YieldsList-from_enumerate (YieldsList-from_slice (take n cs) cc) cc) c.filter.ensures.closure (λ x b q k. search (rules, tests)))))

pub returns-clause-is : goal.returns-clause-is
returns-clause-is c =
    let cs = c.args.self.now.clauses in
    let n = c.args.clauses in
    ap (λ o. unwrap_or (option_map place (option_map item o)) 0) (sym c.unwrap.ensures)
    ∙ ap (λ o. unwrap_or o 0) (found c.nth.result cs n c.args.place (omega (arith, c.args.self.now.clause_size)) c.requires.inside
    (nth_from_yields_List c.nth.result _ c.args.place c.nth.ensures.ran (YieldsList-from_filter _ none_true (YieldsList-from_enumerate (YieldsList-from_slice (take n cs) cc) cc) c.filter.ensures.closure (λ x b q k. search (rules, tests)))))
