use Rattle.std.proofs.Common.{◌≡◌, ◌∷◌, length, nat_abs, sym, ap, ◌∙◌, arith, w32}
use Rattle.std.proofs.lemmas.Fmt.{decimal_digit}
use Rattle.std.proofs.lemmas.Int.{to_z-of_z}
use Rattle.lay.proofs.Signs.{signed_below, signed_other}
use Rattle.lay.proofs.pieces.word_width.Goals as goal

pub returns-then-word-lt0-clause-value : goal.returns-then-word-lt0-clause-value
returns-then-word-lt0-clause-value c =
    let z = to_z-of_z w32 c.args.word c.ranges.word in
    let m : c.unsigned_abs.result ≡ nat_abs c.args.word = c.unsigned_abs.ensures.value ∙ ap nat_abs z in
    let d = decimal_digit (nat_abs c.args.word) (omega (arith, m)) in
    sym (ap length (signed_below c.args.word (simp z at c.if-word-lt0.true)) ∙ ap (λ x. length (45 ∷ x)) d)

pub returns-else-word-lt0-clause-value : goal.returns-else-word-lt0-clause-value
returns-else-word-lt0-clause-value c =
    let z = to_z-of_z w32 c.args.word c.ranges.word in
    let m : c.unsigned_abs.result ≡ nat_abs c.args.word = c.unsigned_abs.ensures.value ∙ ap nat_abs z in
    let d = decimal_digit (nat_abs c.args.word) (omega (arith, m)) in
    sym (ap length (signed_other c.args.word (simp z at c.if-word-lt0.false)) ∙ ap length d)
