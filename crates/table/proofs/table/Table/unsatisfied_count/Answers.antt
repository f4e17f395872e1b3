use Rattle.std.proofs.Common.{◌≡◌, ℕ, ◌≤◌, Bool, cond, eqb, List, length, take, get_or, sym, ◌∙◌, arith, rules, tests}
use Rattle.std.specs.List.{sum_by}
use Rattle.std.proofs.lemmas.Iterator.{YieldsList-from_slice, YieldsList-from_map}
use Rattle.std.proofs.lemmas.Iterator.Consumers.{sum_by_from_yields_List, fits_by_from_yields_list}
use Rattle.std.proofs.lemmas.List.Sums.{length-filter}
use Rattle.formula.specs.Occurrences.{passing}
use Rattle.table.specs.declared.table.ClauseRow.{ClauseRow}
use Rattle.table.specs.Rows.{clause0}
use Rattle.formula.proofs.Passing.{passing_le, passing-filter}
use Rattle.table.proofs.table.Table.unsatisfied_count.Goals as goal

abbrev unsatisfied : ClauseRow → Bool
unsatisfied r = eqb r.count 0

abbrev one : ClauseRow → ℕ
one r = cond (unsatisfied r) 1 0

counted : (cs : List ClauseRow) (n : ℕ) → n ≤ length cs → sum_by one (take n cs) ≡ length (passing (λ k. unsatisfied (get_or cs k clause0)) n)
counted cs n h = sym (length-filter unsatisfied (take n cs)) ∙ passing-filter unsatisfied cs clause0 n h

pub sum-requires-clause-fits : goal.sum-requires-clause-fits
sum-requires-clause-fits c =
    let cs = c.args.self.now.clauses in
    let n = c.args.clauses in
    let e = counted cs n (omega (arith, c.args.self.now.clause_size)) in
    fits_by_from_yields_list one _ c.map.result _ (YieldsList-from_map _ one (YieldsList-from_slice (take n cs) cc) c.map.ensures.closure (λ x r q k. search (rules, tests))) (omega (arith, e, passing_le (λ k. unsatisfied (get_or cs k clause0)) n))

pub returns : goal.returns
returns c =
    let cs = c.args.self.now.clauses in
    let n = c.args.clauses in
    sum_by_from_yields_List one _ c.map.result _ c.sum.ensures.ran (YieldsList-from_map _ one (YieldsList-from_slice (take n cs) cc) c.map.ensures.closure (λ x r q k. search (rules, tests)))
    ∙ counted cs n (omega (arith, c.args.self.now.clause_size))
