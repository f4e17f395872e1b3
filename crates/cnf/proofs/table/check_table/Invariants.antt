use Rattle.std.proofs.Common.{◌≡◌, drop}
use Rattle.cnf.specs.Scans.{no_words, tallied_from}
use Rattle.cnf.proofs.table.check_table.Given as goal

-- what is left of the words gives what they give from the first
abbrev pub invariant-loop-i : goal.invariant-loop-i
invariant-loop-i l = tallied_from l.variables l.tally l.i-counter (drop l.i-counter l.words) ≡ tallied_from l.variables no_words 0 l.words
