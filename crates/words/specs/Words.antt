-- The words of a text: the longest runs of bytes that are no white space, each with the place of its first byte.
use Rattle.std.specs.Prelude.{ℕ, ◌+◌, Bool, true, false, cond, not, ◌||◌, List, [], ◌∷◌, take, drop, ℤ, Some, None, Ok, Err, Option, Result, ◌==◌}
use Rattle.std.specs.List.{prefix_len}
use Rattle.words.specs.declared.faults.WordFault.{WordFault}
use Rattle.words.specs.declared.faults.WordFault.TheVariants.{NotANumber}
use Rattle.words.specs.declared.word.Word.{Word}
use Rattle.words.specs.declared.word.Word.TheVariants.{Number, Name, End}
use Rattle.words.specs.Numbers.{is_number, valued}

-- tab, line end, carriage return and space
abbrev pub white : ℕ → Bool
white b = b == 9 || (b == 10 || (b == 13 || b == 32))

abbrev pub dark : ℕ → Bool
dark b = not (white b)

pub record Token : Type 0 where
  pub bytes : List ℕ
  pub place : ℕ

abbrev pub token : List ℕ → ℕ → Token
token bs p = record { bytes = bs; place = p }

-- one byte more, at the place p, in front of the first word
abbrev pub lengthen : ℕ → ℕ → List Token → List Token
lengthen b p [] = []
lengthen b p (t ∷ ts) = token (b ∷ t.bytes) p ∷ ts

abbrev pub opens_word : List ℕ → Bool
opens_word [] = false
opens_word (b ∷ bs) = dark b

-- the words of the bytes, the first byte being at the place p
abbrev pub tokens : ℕ → List ℕ → List Token
tokens p [] = []
tokens p (b ∷ bs) = cond (white b) (tokens (p + 1) bs) (cond (opens_word bs) (lengthen b p (tokens (p + 1) bs)) (token (b ∷ []) p ∷ tokens (p + 1) bs))

-- how many bytes of white space come first, and how many others
abbrev pub skipped : List ℕ → ℕ
skipped bs = prefix_len white bs

abbrev pub letters : List ℕ → ℕ
letters bs = prefix_len dark bs

-- the first word, [] where there is none
abbrev pub word_of : List ℕ → List ℕ
word_of bs = take (letters (drop (skipped bs) bs)) (drop (skipped bs) bs)

-- where what follows it begins
abbrev pub after : List ℕ → ℕ
after bs = skipped bs + letters (drop (skipped bs) bs)

-- what the reader says: a word, and whether it has the form of a number, or the text's end
pub data Said : Type 0 where
  word : Bool → Token → Said
  end : ℕ → Said

abbrev pub said : Word → Said
said (Number s n) = word true (token s.now n)
said (Name s n) = word false (token s.now n)
said (End n) = end n

abbrev pub said_of : Token → Said
said_of t = word (is_number t.bytes) t

abbrev pub sorted : List ℕ → ℕ → Said
sorted [] n = end n
sorted (b ∷ bs) n = said_of (token (b ∷ bs) n)

-- the word that the reader meets at p
abbrev pub word_from : List ℕ → ℕ → Said
word_from bs p = sorted (word_of (drop p bs)) (p + skipped (drop p bs))

-- what was said in front of what is still to be said
abbrev pub said_before : Said → List Token → List Token
said_before (word b t) ts = t ∷ ts
said_before (end n) ts = []

abbrev pub is_word : Said → Bool
is_word (word b t) = true
is_word (end n) = false

abbrev pub place_of : Said → ℕ
place_of (word b t) = t.place
place_of (end n) = n

abbrev pub some_of : {A E : Type 0} → Result A E → Result (Option A) E
some_of (Ok x) = Ok (Some x)
some_of (Err f) = Err f

-- the number that a word is, or nothing at the text's end
abbrev pub said_number : Said → Result (Option ℤ) WordFault
said_number (word true t) = some_of (valued t.bytes t.place)
said_number (word false t) = Err (NotANumber t.place)
said_number (end n) = Ok None
