-- The number and the place of each layer's fault.
use Rattle.std.specs.Prelude.{ℕ}
use Rattle.cnf.specs.declared.refusal.Check.TheVariants.{NumberForm, NumberSize}
use Rattle.cnf.specs.declared.refusal.Refusal.{Refusal}
use Rattle.cnf.specs.Refusals.{refused}
use Rattle.words.specs.declared.faults.WordFault.{WordFault}
use Rattle.words.specs.declared.faults.WordFault.TheVariants.{NotANumber, TooLarge}
use Rattle.words.specs.declared.faults.ClauseFault.{ClauseFault}
use Rattle.words.specs.declared.faults.ClauseFault.TheVariants as clause
use Rattle.words.specs.declared.faults.HeadFault.{HeadFault}
use Rattle.words.specs.declared.faults.HeadFault.TheVariants as head

abbrev pub beside_clause : WordFault × ℕ → ClauseFault
beside_clause b = clause.Word b.0 b.1

abbrev pub head_from_word : WordFault → HeadFault
head_from_word w = head.Word w

abbrev pub head_from_clause : ClauseFault → HeadFault
head_from_clause c = head.Clause c

abbrev pub word_refusal : WordFault → Refusal
word_refusal (NotANumber p) = refused NumberForm p
word_refusal (TooLarge p) = refused NumberSize p

abbrev pub clause_refusal : ClauseFault → Refusal
clause_refusal (clause.Word w n) = word_refusal w
clause_refusal (clause.Rule r n) = r

abbrev pub head_refusal : HeadFault → Refusal
head_refusal (head.Head r) = r
head_refusal (head.Word w) = word_refusal w
head_refusal (head.Clause c) = clause_refusal c
