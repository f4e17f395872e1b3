use Rattle.std.proofs.Common.{◌≡◌, drop}
use Rattle.sheet.specs.Sheets.{added_all}
use Rattle.sheet.proofs.sheet.Sheet.add_all.Given as goal

-- what is left of the values gives what they all give from the first
abbrev pub invariant-loop-value : goal.invariant-loop-value
invariant-loop-value l = added_all l.sheet (drop l.value-index l.values) l.out ≡ added_all l.initial.sheet l.values l.initial.out
