use Rattle.std.proofs.Common.{take}
use Rattle.lay.proofs.Laying.{Stands}
use Rattle.dimacs.specs.Writes.{words_text}
use Rattle.dimacs.proofs.write.lay_words.Given as goal

-- the words so far stand at their place
abbrev pub invariant-loop-word : goal.invariant-loop-word
invariant-loop-word l = Stands l.initial.out l.at (words_text (take l.word-index l.words)) l.out l.end
