use Rattle.std.proofs.Common.{◌≡◌, ◌+◌, [], ◌∷◌, decimal, length, sym, ap, ◌∙◌, arith}
use Rattle.std.proofs.lemmas.Fmt.{decimal_digit, decimal_nonempty}
use Rattle.lay.specs.Laid.{laid}
use Rattle.lay.proofs.Laying.{laid_one}
use Rattle.lay.proofs.pieces.lay_number.Goals as goal

pub bounds-out-at : goal.bounds-out-at
bounds-out-at c = omega (arith, decimal_nonempty c.args.number (omega arith))

pub returns-then-number-lt10 : goal.returns-then-number-lt10
returns-then-number-lt10 c =
    let e : decimal c.args.number ≡ (48 + c.args.number) ∷ [] = decimal_digit c.args.number c.if-number-lt10.true in
    record {
      end = omega (arith, ap length e);
      bytes = laid_one c.args.out.now c.args.at (48 + c.args.number) (omega (arith, ap length e)) ∙ ap (laid c.args.out.now c.args.at) (sym e);
    }
