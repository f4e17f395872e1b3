use Rattle.std.proofs.Common.{◌≡◌, ◌-◌, ◌≤◌, length, drop}
use Rattle.cnf.specs.Scans.{no_words}
use Rattle.words.specs.Words.{tokens}
use Rattle.words.specs.Readers.{left}
use Rattle.dimacs.specs.Reads.{clauses_from}
use Rattle.dimacs.proofs.clauses.check_clauses.Given as goal

-- what is left of the text gives what the whole gives
abbrev pub invariant-loop-next : goal.invariant-loop-next
invariant-loop-next l =
    (l.reader.text.now ≡ l.text)
    × (l.tally.ended ≤ 1024)
    × (clauses_from l.head.variables l.head.clauses (length l.text) l.tally (left l.reader) ≡ clauses_from l.head.variables l.head.clauses (length l.text) no_words (tokens l.head.end (drop l.head.end l.text)))

abbrev pub decreases-loop-next : goal.decreases-loop-next
decreases-loop-next l = length l.reader.text.now - l.reader.pos
