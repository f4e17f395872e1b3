use Rattle.std.proofs.Common.{◌+◌, length, get_or, take, pos, ap, ◌∙◌, arith, w32, SFits, rules}
use Rattle.std.proofs.lemmas.Int.{to_z-of_z}
use Rattle.lay.specs.Laid.{laid}
use Rattle.lay.proofs.Laying.{stands_more}
use Rattle.dimacs.specs.Writes.{piece, words_text}
use Rattle.dimacs.proofs.Writing.{text_more, piece_room}
use Rattle.dimacs.proofs.write.lay_words.Goals as goal

pub lay_piece-end-requires : goal.lay_piece-end-requires
lay_piece-end-requires c =
    let f : SFits w32 (get_or c.args.words.now c.loop-word.word-index (pos 0)) = search rules in
    let e = ap (λ z. length (piece z)) (to_z-of_z w32 _ f) in
    let p = piece_room c.args.words.now c.loop-word.word-index c.loop-word-test.true in
    omega (arith, c.loop-word.invariant.end, c.loop-word.auto.out)

pub loop-word-preserved : goal.loop-word-preserved
loop-word-preserved c =
    let f : SFits w32 (get_or c.args.words.now c.loop-word.word-index (pos 0)) = search rules in
    let z = to_z-of_z w32 (get_or c.args.words.now c.loop-word.word-index (pos 0)) f in
    let p = piece_room c.args.words.now c.loop-word.word-index c.loop-word-test.true in
    let s = stands_more c.args.out.now c.args.at (words_text (take c.loop-word.word-index c.args.words.now)) _ _ (piece (get_or c.args.words.now c.loop-word.word-index (pos 0))) _ _ (omega arith) c.loop-word.invariant (c.lay_piece-end.ensures.bytes ∙ ap (λ w. laid c.loop-word.out c.loop-word.end (piece w)) z) (c.lay_piece-end.ensures.end ∙ ap (λ w. c.loop-word.end + length (piece w)) z) in
    let e = text_more c.args.words.now c.loop-word.word-index c.loop-word-test.true in
    record { bytes = s.bytes ∙ ap (laid c.args.out.now c.args.at) e; end = s.end ∙ ap (λ l. c.args.at + length l) e }
