-- The texts that are rule tables: comment lines, then a problem line, then numbers that spell its clauses.
use Rattle.std.specs.Prelude.{◌≡◌, ℕ, ◌<◌, ◌≤◌, true, List, [], ◌∷◌, ◌++◌, length, ℤ, pos, Ok, Err}
use Rattle.std.specs.List.{AllByRecursion}
use Rattle.cnf.specs.declared.refusal.Check.TheVariants.{WordsRoom}
use Rattle.cnf.specs.Refusals.{refused}
use Rattle.cnf.specs.Tables.{Legal}
use Rattle.words.specs.declared.faults.HeadFault.TheVariants as head
use Rattle.words.specs.Numbers.{is_number, value_of}
use Rattle.words.specs.Words.{white, dark}
use Rattle.dimacs.specs.declared.read.Problem.{Problem}
use Rattle.dimacs.specs.Heads.{in_line}
use Rattle.dimacs.specs.Reads.{read_answer, text_words}

-- nothing follows, or white space
abbrev pub Apart : List ℕ → Type 0
Apart [] = Unit {0}
Apart (b ∷ bs) = white b ≡ true

-- the bytes are these words, with white space around them
pub data Worded : List ℕ → List (List ℕ) → Type 0 where
  blank : (s : List ℕ) → AllByRecursion (λ b. white b ≡ true) s → Worded s []
  spaced : (s w rest : List ℕ) {ws : List (List ℕ)} → AllByRecursion (λ b. white b ≡ true) s → 0 < length w → AllByRecursion (λ b. dark b ≡ true) w → Apart rest → Worded rest ws → Worded (s ++ (w ++ rest)) (w ∷ ws)

-- the word is `0`, or an optional `-`, a digit 1 to 9 and further digits, and its decimal value is z
pub record Numeral (w : List ℕ) (z : ℤ) : Type 0 where
  pub form : is_number w ≡ true
  pub value : value_of w ≡ z

abbrev pub Numerals : List (List ℕ) → List ℤ → Type 0
Numerals [] [] = Unit {0}
Numerals [] (z ∷ zs) = ⊥
Numerals (w ∷ ws) [] = ⊥
Numerals (w ∷ ws) (z ∷ zs) = Numeral w z × Numerals ws zs

-- the bytes are comment lines, each begun by `c` and ended by byte 10, and then the rest
pub data Commented : List ℕ → List ℕ → Type 0 where
  no_comment : {rest : List ℕ} → Commented rest rest
  comment : (line : List ℕ) {bs rest : List ℕ} → AllByRecursion (λ b. in_line b ≡ true) line → Commented bs rest → Commented (99 ∷ (line ++ (10 ∷ bs))) rest

-- a line of exactly the words `p`, at its first byte, `cnf`, and the numbers v and c
pub record ProblemLine (line : List ℕ) (v c : ℕ) : Type 0 where
  pub one_line : AllByRecursion (λ b. in_line b ≡ true) line
  pub behind : List ℕ
  pub opens : line ≡ 112 ∷ behind
  pub variables : List ℕ
  pub clauses : List ℕ
  pub words : Worded line ((112 ∷ []) ∷ (99 ∷ 110 ∷ 102 ∷ []) ∷ variables ∷ clauses ∷ [])
  pub variables_are : Numeral variables (pos v)
  pub clauses_are : Numeral clauses (pos c)

-- a text of at most 65,535 bytes that spells a table of c clauses over v variables, with the words zs
pub record Text (bs : List ℕ) (v c : ℕ) (zs : List ℤ) : Type 0 where
  pub short : length bs ≤ 65535
  pub line : List ℕ
  pub body : List ℕ
  pub comments : Commented bs (line ++ (10 ∷ body))
  pub problem : ProblemLine line v c
  pub words : List (List ℕ)
  pub spaced_words : Worded body words
  pub numbers : Numerals words zs
  pub table : Legal v zs
  pub exact : length table.clauses ≡ c

abbrev pub problem : ℕ → ℕ → ℕ → Problem
problem v c n = record { variables = v; clauses = c; words = n }

-- a text is accepted exactly when it spells a table, and the words given are those that it spells
pub record ReadsTheGrammar (bs : List ℕ) (room : ℕ) : Type 0 where
  pub only : (p : Problem) → read_answer bs room ≡ Ok p → Text bs p.variables p.clauses (text_words bs) × (p.words ≡ length (text_words bs)) × (p.words ≤ room)
  pub every : (v c : ℕ) (zs : List ℤ) → Text bs v c zs → length zs ≤ room → (read_answer bs room ≡ Ok (problem v c (length zs))) × (text_words bs ≡ zs)
  pub full : (v c : ℕ) (zs : List ℤ) → Text bs v c zs → room < length zs → read_answer bs room ≡ Err (head.Head (refused WordsRoom 0))
