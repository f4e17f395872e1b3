-- The numbers that refusals are printed with.
use Rattle.std.specs.Prelude.{ℕ, List, ◌++◌, codes, decimal}
use Rattle.cnf.specs.declared.refusal.Check.{Check}
use Rattle.cnf.specs.declared.refusal.Check.TheVariants.{TextLength, ProblemLine, NumberForm, NumberSize, Limits, ClauseCount, VariableRange, EmptyClause, LiteralCount, WordsRoom, StartValues, HasFormula, InRange, TicksLeft, BudgetFits, SeedRange, BytesRoom, ValueDue}
use Rattle.cnf.specs.declared.refusal.Refusal.{Refusal}

abbrev pub number_of : Check → ℕ
number_of TextLength = 1
number_of ProblemLine = 2
number_of NumberForm = 3
number_of NumberSize = 4
number_of Limits = 5
number_of ClauseCount = 6
number_of VariableRange = 7
number_of EmptyClause = 8
number_of LiteralCount = 9
number_of WordsRoom = 10
number_of StartValues = 11
number_of HasFormula = 12
number_of InRange = 13
number_of TicksLeft = 14
number_of BudgetFits = 15
number_of SeedRange = 16
number_of BytesRoom = 17
number_of ValueDue = 18

abbrev pub refused : Check → ℕ → Refusal
refused c p = record { check = c; place = p }

-- the bytes by which a refusal is told: its number and its place
abbrev pub told : Refusal → List ℕ
told r = codes "refused " ++ decimal (number_of r.check) ++ codes " at " ++ decimal r.place
