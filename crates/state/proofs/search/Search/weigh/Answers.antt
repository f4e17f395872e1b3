use Rattle.std.proofs.Common.{◌+◌, ◌≤◌, length, sym, subst, arith}
use Rattle.state.specs.Model.{total}
use Rattle.state.specs.Searches.{model}
use Rattle.state.proofs.Facts.{keeps}
use Rattle.state.proofs.Moves.{weigh_model, weigh_kept}
use Rattle.state.proofs.Truths.{weighed-sum}
use Rattle.state.proofs.search.Search.weigh.Goals as goal

pub weigh-requires : goal.weigh-requires
weigh-requires c =
    let k = keeps c.args.self.now in
    record { some = k.some.1; sound = k.sound; light = omega (arith, k.limited) }

pub invariant_of-self : goal.invariant_of-self
invariant_of-self c =
    let s = c.args.self.now in
    record { kept = ∣ weigh_kept s.given s.formula s.occurrences s.table c.weigh.new.self (keeps s) c.weigh.ensures c.requires.pace c.requires.tick ∣₁ }

pub returns : goal.returns
returns c =
    let s = c.args.self.now in
    let e = weigh_model s.given s.formula s.occurrences s.table c.weigh.new.self (keeps s) c.weigh.ensures in
    record { weighs = e; slow = subst (λ m. total m ≤ total (model s) + length (model s).clauses) (sym e) (weighed-sum (model s)) }
