-- What the reader answers, by the words of the text.
use Rattle.std.specs.Prelude.{ℕ, ◌+◌, cond, not, ◌||◌, List, [], ◌∷◌, ◌++◌, length, drop, ℤ, Some, None, Ok, Err, Option, Result, ◌==◌, nat_le}
use Rattle.cnf.specs.declared.refusal.Check.{Check}
use Rattle.cnf.specs.declared.refusal.Check.TheVariants.{ClauseCount, WordsRoom}
use Rattle.cnf.specs.declared.tally.Tally.{Tally}
use Rattle.cnf.specs.Refusals.{refused}
use Rattle.cnf.specs.Scans.{and_then, no_words, tallied}
use Rattle.words.specs.declared.faults.WordFault.{WordFault}
use Rattle.words.specs.declared.faults.ClauseFault.{ClauseFault}
use Rattle.words.specs.declared.faults.ClauseFault.TheVariants.{Rule}
use Rattle.words.specs.declared.faults.HeadFault.{HeadFault}
use Rattle.words.specs.declared.faults.HeadFault.TheVariants as head
use Rattle.words.specs.Faults.{beside_clause, head_from_clause}
use Rattle.words.specs.Numbers.{numbered}
use Rattle.words.specs.Words.{Token, tokens, Said, place_of, some_of, said_number}
use Rattle.dimacs.specs.declared.head.Head.{Head}
use Rattle.dimacs.specs.declared.read.Problem.{Problem}
use Rattle.dimacs.specs.Heads.{head_read}

-- a word's fault beside the number of its clause
abbrev pub in_clause : {A : Type 0} → Result A WordFault → ℕ → Result A ClauseFault
in_clause (Ok x) n = Ok x
in_clause (Err f) n = Err (beside_clause (f, n))

-- a rule of the clause layer that gave a no, at the place p in clause n
abbrev pub by_rule : {A : Type 0} → Result A Check → ℕ → ℕ → Result A ClauseFault
by_rule (Ok x) p n = Ok x
by_rule (Err c) p n = Err (Rule (refused c p) n)

-- the tally with one number more of a text of c clauses over v variables
abbrev pub taken : ℕ → ℕ → Tally → ℕ → ℤ → Result Tally ClauseFault
taken v c t p z = cond (nat_le c t.ended) (Err (Rule (refused ClauseCount p) (t.ended + 1))) (by_rule (tallied v t z) p (t.ended + 1))

-- the same with one word more
abbrev pub token_taken : ℕ → ℕ → Tally → Token → Result Tally ClauseFault
token_taken v c t k = and_then (in_clause (numbered k.bytes k.place) (t.ended + 1)) (taken v c t k.place)

-- a text of n bytes that ends here has exactly c clauses, and the last one is ended
abbrev pub finished : ℕ → ℕ → Tally → Result Tally ClauseFault
finished c n t = cond (t.begun || not (t.ended == c)) (Err (Rule (refused ClauseCount n) (t.ended + 1))) (Ok t)

-- the tally after the words, or the first fault
abbrev pub clauses_from : ℕ → ℕ → ℕ → Tally → List Token → Result Tally ClauseFault
clauses_from v c n t [] = finished c n t
clauses_from v c n t (k ∷ ks) = and_then (token_taken v c t k) (λ u. clauses_from v c n u ks)

-- the numbers that the words are, up to the first that is none
abbrev pub onto_number : Result ℤ WordFault → List ℤ → List ℤ
onto_number (Ok z) zs = z ∷ zs
onto_number (Err f) zs = []

abbrev pub numbers_of : List Token → List ℤ
numbers_of [] = []
numbers_of (k ∷ ks) = onto_number (numbered k.bytes k.place) (numbers_of ks)

abbrev pub as_head : {A : Type 0} → Result A ClauseFault → Result A HeadFault
as_head (Ok x) = Ok x
as_head (Err f) = Err (head_from_clause f)

-- the words after the head
abbrev pub body_tokens : List ℕ → Head → List Token
body_tokens bs h = tokens h.end (drop h.end bs)

abbrev pub body_tally : List ℕ → Head → Result Tally HeadFault
body_tally bs h = as_head (clauses_from h.variables h.clauses (length bs) no_words (body_tokens bs h))

-- what is found, where the words table has room for n words
abbrev pub found : ℕ → Head → Tally → Result Problem HeadFault
found n h t = cond (nat_le (t.literals + t.ended) n) (Ok (record { variables = h.variables; clauses = h.clauses; words = t.literals + t.ended })) (Err (head.Head (refused WordsRoom 0)))

abbrev pub read_answer : List ℕ → ℕ → Result Problem HeadFault
read_answer bs n = and_then (head_read bs) (λ h. and_then (body_tally bs h) (found n h))

-- the words of the clauses, with their zeros
abbrev pub words_after : List ℕ → Result Head HeadFault → List ℤ
words_after bs (Ok h) = numbers_of (body_tokens bs h)
words_after bs (Err f) = []

abbrev pub text_words : List ℕ → List ℤ
text_words bs = words_after bs (head_read bs)

-- a table with the words at its front, unless the text was refused
abbrev pub table_after : Result Problem HeadFault → List ℤ → List ℤ → List ℤ
table_after (Ok p) ws old = ws ++ drop (length ws) old
table_after (Err f) ws old = old

abbrev pub read_table : List ℕ → List ℤ → List ℤ
read_table bs old = table_after (read_answer bs (length old)) (text_words bs) old

-- the tally after what the reader says, or nothing at the text's end
abbrev pub taken_number : ℕ → ℕ → Tally → ℕ → Option ℤ → Result (Option Tally) ClauseFault
taken_number v c t p (Some z) = some_of (taken v c t p z)
taken_number v c t p None = Ok None

abbrev pub said_taken : ℕ → ℕ → Tally → Said → Result (Option Tally) ClauseFault
said_taken v c t w = and_then (in_clause (said_number w) (t.ended + 1)) (taken_number v c t (place_of w))
