use Rattle.std.proofs.Common.{pos, ap, ◌∙◌, subst, sym}
use Rattle.state.specs.Model.{cost}
use Rattle.state.specs.Theorems.{Alike}
use Rattle.state.specs.Searches.{model}
use Rattle.state.proofs.Facts.{keeps}
use Rattle.state.proofs.Moves.{flip_model, flip_kept}
use Rattle.state.proofs.Truths.{filled, pays, near}
use Rattle.state.proofs.search.Search.flip.Goals as goal

pub flip-requires : goal.flip-requires
flip-requires c =
    let k = keeps c.args.self.now in
    record { occurs = k.occurs; x_bound = c.requires.variable; tick = c.requires.tick; sound = k.sound }

pub invariant_of-self : goal.invariant_of-self
invariant_of-self c =
    let s = c.args.self.now in
    record { kept = ∣ flip_kept s.given s.formula s.occurrences s.table c.flip.new.self c.args.x (keeps s) c.requires.variable c.requires.tick c.flip.ensures ∣₁ }

pub returns : goal.returns
returns c =
    let s = c.args.self.now in
    let k = keeps s in
    let e = flip_model s.given s.formula s.occurrences s.table c.flip.new.self c.args.x k c.requires.variable c.requires.tick c.flip.ensures in
    let h = filled s.given s.formula s.occurrences s.table k in
    record {
      flips = e;
      pays = ap (λ m. pos (cost m)) e ∙ pays (model s) c.args.x h c.requires.variable;
      near = λ y ne far. subst (Alike y (model s)) (sym e) (near (model s) c.args.x y h c.requires.variable ne far);
    }
