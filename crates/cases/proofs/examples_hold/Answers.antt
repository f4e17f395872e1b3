use mathlib.Core.Path.{refl}
use Rattle.cases.proofs.examples_hold.Goals as goal

pub returns : goal.returns
returns c = record {
  scores_A = (refl, refl);
  step_A = (refl, refl);
  scores_B = (refl, refl, refl);
  one_B = refl;
  two_B = refl;
  three_B = (refl, refl, refl);
  no_steps = refl;
  smooths = (refl, refl);
  smooths_alike = refl;
  smooths_away = refl;
  numbers = refl;
}
