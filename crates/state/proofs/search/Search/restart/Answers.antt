use Rattle.std.proofs.Common.{refl}
use Rattle.cnf.specs.Tables.{clauses_of}
use Rattle.formula.specs.Formulas.{words_of}
use Rattle.state.proofs.Facts.{keeps}
use Rattle.state.proofs.Moves.{begin_model, begin_kept}
use Rattle.state.proofs.search.Search.restart.Goals as goal

pub invariant_of-self : goal.invariant_of-self
invariant_of-self c =
    let s = c.args.self.now in
    let k = keeps s in
    record { kept = ∣ begin_kept s.given s.formula s.occurrences c.restart.new.self c.args.start.now (clauses_of (words_of s.given)) refl k.holds k.occurs c.requires c.restart.ensures k.some ∣₁ }

pub returns : goal.returns
returns c =
    let s = c.args.self.now in
    let k = keeps s in
    begin_model s.given s.formula s.occurrences c.restart.new.self c.args.start.now (clauses_of (words_of s.given)) refl k.holds k.occurs c.requires c.restart.ensures
