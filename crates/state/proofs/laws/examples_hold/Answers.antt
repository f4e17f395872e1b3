use Rattle.std.proofs.Common.{refl}
use Rattle.state.proofs.laws.examples_hold.Goals as goal

pub returns : goal.returns
returns c =
    record {
      scores_A = (refl, refl, refl);
      cost-A = refl;
      unsatisfied-A = refl;
      scores_B = (refl, refl);
      changed-B = (refl, refl);
      cost-B = refl;
      both_signs = (refl, refl, refl);
      smoothed_3 = refl;
      kept_3 = refl;
      smoothed_16 = refl;
      light = refl;
    }
