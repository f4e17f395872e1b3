use Rattle.std.proofs.Common.{◌≡◌, ℕ, [], ◌∷◌, nat_abs, decimal, sym, ap, ◌∙◌, arith, w32}
use Rattle.std.specs.Fmt.{signed_decimal}
use Rattle.std.proofs.lemmas.Int.{to_z-of_z}
use Rattle.lay.specs.Laid.{laid}
use Rattle.lay.proofs.Laying.{laid-laid}
use Rattle.lay.proofs.Signs.{signed_below}
use Rattle.lay.proofs.pieces.lay_word.Goals as goal

pub returns-then-word-lt0-clause-bytes : goal.returns-then-word-lt0-clause-bytes
returns-then-word-lt0-clause-bytes c =
    let z = to_z-of_z w32 c.args.word c.ranges.word in
    let m : c.unsigned_abs-magnitude.result ≡ nat_abs c.args.word = c.unsigned_abs-magnitude.ensures.value ∙ ap nat_abs z in
    let s : signed_decimal c.args.word ≡ 45 ∷ decimal c.unsigned_abs-magnitude.result = signed_below c.args.word (simp z at c.if-word-lt0.true) ∙ ap (λ (n : ℕ). 45 ∷ decimal n) (sym m) in
    let l = laid-laid c.args.out.now (45 ∷ []) (decimal c.unsigned_abs-magnitude.result) c.args.at (omega arith) in
    let onto = ap (laid c.args.out.now c.args.at) s in
    cc
