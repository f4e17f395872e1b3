-- The head of a text: comment lines, then the problem line.
use Rattle.std.specs.Prelude.{ℕ, ◌+◌, Bool, true, false, cond, not, ◌&&◌, List, [], ◌∷◌, length, take, drop, ℤ, pos, negsuc, Some, None, Ok, Err, Option, Result, ◌==◌, nat_lt}
use Rattle.std.specs.List.{prefix_len}
use Rattle.cnf.specs.declared.refusal.Check.TheVariants.{TextLength, ProblemLine, Limits}
use Rattle.cnf.specs.Refusals.{refused}
use Rattle.cnf.specs.Scans.{and_then}
use Rattle.words.specs.declared.faults.WordFault.{WordFault}
use Rattle.words.specs.declared.faults.WordFault.TheVariants.{NotANumber}
use Rattle.words.specs.declared.faults.HeadFault.{HeadFault}
use Rattle.words.specs.declared.faults.HeadFault.TheVariants as head
use Rattle.words.specs.declared.word.Word.{Word}
use Rattle.words.specs.Faults.{head_from_word}
use Rattle.words.specs.Numbers.{within, valued}
use Rattle.words.specs.Words.{Token, tokens, Said, word, end, said, said_of, place_of, is_word}
use Rattle.dimacs.specs.declared.head.Head.{Head}

-- where the first line that is no comment begins, from the place p, which is inside a comment line or at a line's start
abbrev pub head_from : Bool → ℕ → List ℕ → ℕ
head_from true p [] = p
head_from true p (b ∷ bs) = head_from (not (b == 10)) (p + 1) bs
head_from false p [] = p
head_from false p (b ∷ bs) = cond (b == 99) (head_from true (p + 1) bs) p

-- a line ends at byte 10 or at the text's end
abbrev pub in_line : ℕ → Bool
in_line b = not (b == 10)

abbrev pub line_end : List ℕ → ℕ → ℕ
line_end bs p = p + prefix_len in_line (drop p bs)

abbrev pub is_p : List ℕ → Bool
is_p [] = false
is_p (a ∷ []) = a == 112
is_p (a ∷ b ∷ bs) = false

abbrev pub is_cnf : List ℕ → Bool
is_cnf [] = false
is_cnf (a ∷ []) = false
is_cnf (a ∷ b ∷ []) = false
is_cnf (a ∷ b ∷ c ∷ []) = a == 99 && (b == 110 && c == 102)
is_cnf (a ∷ b ∷ c ∷ d ∷ bs) = false

-- the two numbers of a problem line that begins at s and has these words
abbrev pub problem_of : ℕ → List Token → Option (Said × Said)
problem_of s [] = None
problem_of s (a ∷ []) = None
problem_of s (a ∷ b ∷ []) = None
problem_of s (a ∷ b ∷ v ∷ []) = None
problem_of s (a ∷ b ∷ v ∷ c ∷ []) = cond (is_p a.bytes && (a.place == s && is_cnf b.bytes)) (Some (said_of v, said_of c)) None
problem_of s (a ∷ b ∷ v ∷ c ∷ d ∷ ts) = None

-- the number that a word of the head is
abbrev pub head_number : Said → Result ℤ WordFault
head_number (word true t) = valued t.bytes t.place
head_number (word false t) = Err (NotANumber t.place)
head_number (end n) = Err (NotANumber n)

abbrev pub headed : {A : Type 0} → Result A WordFault → Result A HeadFault
headed (Ok x) = Ok x
headed (Err f) = Err (head_from_word f)

-- a number from 1 to m, or the fault at the place p
abbrev pub up_to : ℕ → ℕ → ℤ → Result ℕ HeadFault
up_to m p (pos n) = cond (within 1 m n) (Ok n) (Err (head.Head (refused Limits p)))
up_to m p (negsuc n) = Err (head.Head (refused Limits p))

abbrev pub limited : ℕ → Said → Result ℕ HeadFault
limited m w = and_then (headed (head_number w)) (up_to m (place_of w))

abbrev pub head_of : ℕ → ℕ → Option (Said × Said) → Result Head HeadFault
head_of s e None = Err (head.Head (refused ProblemLine s))
head_of s e (Some p) = and_then (limited 256 p.0) (λ v. and_then (limited 1024 p.1) (λ c. Ok (record { variables = v; clauses = c; end = e })))

-- the words of the line that begins at s
abbrev pub line_tokens : List ℕ → ℕ → List Token
line_tokens bs s = tokens s (drop s (take (line_end bs s) bs))

-- the head of the text, or its first fault
abbrev pub head_read : List ℕ → Result Head HeadFault
head_read bs = cond (nat_lt 65535 (length bs)) (Err (head.Head (refused TextLength 0))) (head_of (head_from false 0 bs) (line_end bs (head_from false 0 bs)) (problem_of (head_from false 0 bs) (line_tokens bs (head_from false 0 bs))))

-- the tests of a problem line, on what the reader says
abbrev pub said_p : ℕ → Said → Bool
said_p s (word b t) = is_p t.bytes && t.place == s
said_p s (end n) = false

abbrev pub said_cnf : Said → Bool
said_cnf (word b t) = is_cnf t.bytes
said_cnf (end n) = false

abbrev pub said_pair : Option (Word × Word) → Option (Said × Said)
said_pair None = None
said_pair (Some p) = Some (said p.0, said p.1)

abbrev pub problem_line : ℕ → Said → Said → Said → Said → Said → Bool
problem_line s a b v c d = said_p s a && (said_cnf b && (is_word v && (is_word c && not (is_word d))))
