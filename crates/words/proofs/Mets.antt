-- What a word takes of the words that are left.
use Rattle.std.proofs.Common.{◌≡◌, ℕ, ◌+◌, ◌<◌, ◌≤◌, true, List, length, drop, sym, ap, ◌∙◌, true≢false, arith}
use Rattle.words.specs.declared.word.Reader.{Reader}
use Rattle.words.specs.Words.{tokens, Said, word, end, said_before, word_from, word_of, skipped, letters, after, is_word}
use Rattle.words.specs.Readers.{Honest, Met}
use Rattle.words.proofs.Tokens.{tokens-next, said_is_word, word_moves, end_said}

honest_by : (bs : List ℕ) (p : ℕ) → p ≤ length bs → (w : Said) → w ≡ word_from bs p → Honest (length bs) w
honest_by bs p h (word b t) e = said_is_word (word_of (drop p bs)) (p + skipped (drop p bs)) b t (sym e)
honest_by bs p h (end k) e = end_said bs p k h (sym e)

moves_by : (bs : List ℕ) (p : ℕ) (w : Said) → w ≡ word_from bs p → is_word w ≡ true → 0 < after (drop p bs)
moves_by bs p (word b t) e i =
    let m = word_moves (drop (skipped (drop p bs)) (drop p bs)) (letters (drop (skipped (drop p bs)) (drop p bs))) (p + skipped (drop p bs)) b t (sym e) in
    omega arith
moves_by bs p (end k) e i = absurd (true≢false (sym i))

pub met_by : (r s : Reader) (w : Said) → s.text ≡ r.text → w ≡ word_from r.text.now r.pos → s.pos ≡ r.pos + after (drop r.pos r.text.now) → Met r w s
met_by r s w t e p = record {
  words =
      tokens-next r.text.now r.pos
      ∙ ap (λ x. said_before x (tokens (r.pos + after (drop r.pos r.text.now)) (drop (r.pos + after (drop r.pos r.text.now)) r.text.now))) (sym e)
      ∙ ap (λ n. said_before w (tokens n (drop n r.text.now))) (sym p)
      ∙ ap (λ x. said_before w (tokens s.pos (drop s.pos x.now))) (sym t);
  honest = honest_by r.text.now r.pos r.within w e;
  moves = λ i. (let m = moves_by r.text.now r.pos w e i in omega (arith, p));
}
