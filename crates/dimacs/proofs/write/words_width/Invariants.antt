use Rattle.std.proofs.Common.{◌≡◌, ◌+◌, ◌*◌, ◌≤◌, length, drop}
use Rattle.dimacs.specs.Writes.{words_text}
use Rattle.dimacs.proofs.write.words_width.Given as goal

abbrev pub invariant-loop-word : goal.invariant-loop-word
invariant-loop-word l = (l.width ≤ 22 * l.word-index) × (l.width + length (words_text (drop l.word-index l.words)) ≡ length (words_text l.words))
