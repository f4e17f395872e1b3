use Rattle.std.proofs.Common.{◌+◌, ◌≤◌, true, false, [], ◌∷◌, length, ap, ◌∙◌, arith, w32}
use Rattle.std.specs.Fmt.{signed_decimal}
use Rattle.std.proofs.lemmas.Int.{to_z-of_z}
use Rattle.lay.specs.Laid.{laid}
use Rattle.lay.proofs.Laying.{Stands, stands_more, length-laid}
use Rattle.cnf.proofs.Words.{zero_is, other_is}
use Rattle.dimacs.proofs.Writing.{length-piece, piece_is}
use Rattle.dimacs.proofs.write.lay_piece.Goals as goal
use Rattle.dimacs.proofs.write.lay_piece.Goals.{After-lay_word-end}

-- the word alone
laid_word : (c : After-lay_word-end) → Stands c.args.out.now c.args.at (signed_decimal c.args.word) c.lay_word-end.new.out c.lay_word-end.result
laid_word c =
    let z = to_z-of_z w32 c.args.word c.ranges.word in
    record {
      bytes = c.lay_word-end.ensures.bytes ∙ ap (λ w. laid c.args.out.now c.args.at (signed_decimal w)) z;
      end = c.lay_word-end.ensures.end ∙ ap (λ w. c.args.at + length (signed_decimal w)) z;
    }

room : (c : After-lay_word-end) → c.lay_word-end.result + 1 ≤ length c.lay_word-end.new.out
room c =
    let s = laid_word c in
    let l = length-laid c.args.out.now (signed_decimal c.args.word) c.args.at (omega (arith, length-piece c.args.word)) in
    omega (arith, s.end, ap length s.bytes, length-piece c.args.word)

pub returns-then-word-eq0 : goal.returns-then-word-eq0
returns-then-word-eq0 c =
    let s = stands_more c.args.out.now c.args.at (signed_decimal c.args.word) _ _ (10 ∷ []) _ _ (omega (arith, length-piece c.args.word)) (laid_word (goal.at.returns-then-word-eq0 c).After-lay_word-end) c.lay_bytes.ensures.bytes c.lay_bytes.ensures.end in
    let e = piece_is c.args.word true (zero_is c.args.word c.ranges.word c.if-word-eq0.true) in
    record { end = s.end ∙ ap (λ l. c.args.at + length l) e; bytes = s.bytes ∙ ap (laid c.args.out.now c.args.at) e }

pub returns-else-word-eq0 : goal.returns-else-word-eq0
returns-else-word-eq0 c =
    let s = stands_more c.args.out.now c.args.at (signed_decimal c.args.word) _ _ (32 ∷ []) _ _ (omega (arith, length-piece c.args.word)) (laid_word (goal.at.returns-else-word-eq0 c).After-lay_word-end) c.lay_bytes-else-word-eq0.ensures.bytes c.lay_bytes-else-word-eq0.ensures.end in
    let e = piece_is c.args.word false (other_is c.args.word c.if-word-eq0.false) in
    record { end = s.end ∙ ap (λ l. c.args.at + length l) e; bytes = s.bytes ∙ ap (laid c.args.out.now c.args.at) e }
