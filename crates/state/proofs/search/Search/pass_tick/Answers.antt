use Rattle.state.proofs.Facts.{keeps}
use Rattle.state.proofs.Moves.{tick_kept}
use Rattle.state.proofs.search.Search.pass_tick.Goals as goal

pub invariant_of-self : goal.invariant_of-self
invariant_of-self c =
    let s = c.args.self.now in
    let t = s.table in
    ((t.size, (t.clause_size, tt)), (∣ tick_kept s.given s.formula s.occurrences t (keeps s) c.requires ∣₁, tt))
