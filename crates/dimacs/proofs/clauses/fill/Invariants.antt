use Rattle.std.proofs.Common.{◌≡◌, ◌+◌, ◌++◌, length, take, drop}
use Rattle.words.specs.Words.{tokens}
use Rattle.words.specs.Readers.{left}
use Rattle.dimacs.specs.Reads.{numbers_of}
use Rattle.dimacs.proofs.clauses.fill.Given as goal

-- the numbers so far stand at the front, and those that are left complete them
abbrev pub invariant-loop-place : goal.invariant-loop-place
invariant-loop-place l =
    (l.place-index + length (numbers_of (left l.reader)) ≡ length (numbers_of (tokens l.from (drop l.from l.text))))
    × (take l.place-index l.words ++ numbers_of (left l.reader) ≡ numbers_of (tokens l.from (drop l.from l.text)))
    × (drop l.place-index l.words ≡ drop l.place-index l.initial.words)
