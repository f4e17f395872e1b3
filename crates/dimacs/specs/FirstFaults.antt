-- A text that is refused is refused by its first fault in reading order.
use Rattle.std.specs.Prelude.{◌≡◌, ℕ, ◌+◌, ◌<◌, List, [], ◌∷◌, ◌++◌, length, Ok, Err}
use Rattle.cnf.specs.declared.refusal.Check.TheVariants.{WordsRoom}
use Rattle.cnf.specs.declared.tally.Tally.{Tally}
use Rattle.cnf.specs.Refusals.{refused}
use Rattle.cnf.specs.Scans.{no_words}
use Rattle.words.specs.declared.faults.ClauseFault.{ClauseFault}
use Rattle.words.specs.declared.faults.HeadFault.{HeadFault}
use Rattle.words.specs.declared.faults.HeadFault.TheVariants as head
use Rattle.words.specs.Words.{Token}
use Rattle.dimacs.specs.declared.head.Head.{Head}
use Rattle.dimacs.specs.Heads.{head_read}
use Rattle.dimacs.specs.Reads.{token_taken, finished, body_tokens, body_tally, read_answer}

-- no word has a fault after those before it, in a text of c clauses over v variables, and they lead from the tally t to the tally u
pub data Faultless (v c : ℕ) : Tally → List Token → Tally → Type 0 where
  nothing : {t : Tally} → Faultless v c t [] t
  after_it : {t u w : Tally} (k : Token) {ks : List Token} → token_taken v c t k ≡ Ok u → Faultless v c u ks w → Faultless v c t (k ∷ ks) w

-- the fault of the next word, or, where no word is left, of the end of a text of n bytes
abbrev pub FaultNext : ℕ → ℕ → ℕ → Tally → List Token → ClauseFault → Type 0
FaultNext v c n t [] f = finished c n t ≡ Err f
FaultNext v c n t (k ∷ ks) f = token_taken v c t k ≡ Err f

-- the words before the fault have none
pub record FirstFault (v c n : ℕ) (t : Tally) (ks : List Token) (f : ClauseFault) : Type 0 where
  pub before : List Token
  pub rest : List Token
  pub split : ks ≡ before ++ rest
  pub tally : Tally
  pub faultless : Faultless v c t before tally
  pub fault : FaultNext v c n tally rest f

-- the fault stands in the head; or the head has none, and it is the first in the clauses; or they have none either, and the words table is too short
pub data Refused (bs : List ℕ) (room : ℕ) : HeadFault → Type 0 where
  in_head : {f : HeadFault} → head_read bs ≡ Err f → Refused bs room f
  in_clauses : (h : Head) (f : ClauseFault) → head_read bs ≡ Ok h → FirstFault h.variables h.clauses (length bs) no_words (body_tokens bs h) f → Refused bs room (head.Clause f)
  no_room : (h : Head) (t : Tally) → head_read bs ≡ Ok h → body_tally bs h ≡ Ok t → room < t.literals + t.ended → Refused bs room (head.Head (refused WordsRoom 0))

abbrev pub RefusesTheFirst : List ℕ → ℕ → Type 0
RefusesTheFirst bs room = (f : HeadFault) → read_answer bs room ≡ Err f → Refused bs room f
