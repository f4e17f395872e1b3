-- Every search keeps what it should.
use Rattle.std.proofs.Common.{sym}
use Rattle.state.specs.declared.search.Search.{Search}
use Rattle.state.specs.Searches.{Exact}
use Rattle.state.proofs.Facts.{keeps}
use Rattle.state.proofs.Models.{cost_is, score_is, total_is, changed_is, unsatisfied_is}

pub exact : (s : Search) → Exact s
exact s =
    let k = keeps s in
    record {
      scores = score_is s.given s.formula s.occurrences s.table k;
      marks = changed_is s.given s.formula s.occurrences s.table k;
      costs = cost_is s.given s.formula s.occurrences s.table k;
      totals = total_is s.given s.formula s.occurrences s.table k;
      lists = sym (unsatisfied_is s.given s.formula s.occurrences s.table k);
    }
