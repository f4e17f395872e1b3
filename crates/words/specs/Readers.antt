-- What is left of a text to a reader, and what one word takes of it.
use Rattle.std.specs.Prelude.{◌≡◌, ℕ, ◌<◌, true, List, length, drop}
use Rattle.words.specs.declared.word.Reader.{Reader}
use Rattle.words.specs.Numbers.{is_number}
use Rattle.words.specs.Words.{Token, tokens, Said, word, end, said_before, is_word}

-- the words that are still to be read
abbrev pub left : Reader → List Token
left r = tokens r.pos (drop r.pos r.text.now)

-- a word is said to be a number exactly when it has the form of one
abbrev pub Honest : ℕ → Said → Type 0
Honest n (word b t) = b ≡ is_number t.bytes
Honest n (end k) = k ≡ n

-- the reader r meets w, and stands at s then
pub record Met (r : Reader) (w : Said) (s : Reader) : Type 0 where
  pub words : left r ≡ said_before w (left s)
  pub honest : Honest (length r.text.now) w
  pub moves : is_word w ≡ true → r.pos < s.pos
