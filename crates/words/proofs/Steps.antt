-- The first word after a position.
use Rattle.std.proofs.Common.{◌≡◌, ℕ, ◌+◌, ◌-◌, ◌<◌, ◌≤◌, true, false, List, [], ◌∷◌, length, take, drop, sym, refl, ap, ◌∙◌, arith}
use Rattle.std.proofs.lemmas.List.{drop-drop, length-drop, length-take, take_all}
use Rattle.std.proofs.lemmas.List.Sums.{prefix_len-le-length}
use Rattle.words.specs.Numbers.{is_number}
use Rattle.words.specs.Words.{white, dark, skipped, letters, word_of, after, token, word, end, sorted, word_from}

-- a text from a place on
pub rest_is : (bs : List ℕ) (p : ℕ) → take (length bs - p) (drop p bs) ≡ drop p bs
rest_is bs p = take_all (length bs - p) (drop p bs) (omega (arith, length-drop p bs))

pub start_within : (bs : List ℕ) (p start : ℕ) → p ≤ length bs → start ≡ p + skipped (drop p bs) → start ≤ length bs
start_within bs p start h s = omega (arith, prefix_len-le-length white (drop p bs), length-drop p bs)

-- start and stop are the bounds of the first word at p
pub record Bounds (bs : List ℕ) (p start stop : ℕ) : Type 0 where
  pub within : p ≤ length bs
  pub from : start ≡ p + skipped (drop p bs)
  pub to : stop ≡ start + letters (drop start bs)

module _ {bs : List ℕ} {p start stop : ℕ} (w : Bounds bs p start stop) where
  pub end_within : stop ≤ length bs
  end_within = omega (arith, start_within bs p start w.within w.from, prefix_len-le-length dark (drop start bs), length-drop start bs)

  rest : drop start bs ≡ drop (skipped (drop p bs)) (drop p bs)
  rest = ap (λ n. drop n bs) w.from ∙ sym (drop-drop (skipped (drop p bs)) p bs)

  pub end_is : stop ≡ p + after (drop p bs)
  end_is = omega (arith, ap letters rest)

  word_is : take (stop - start) (drop start bs) ≡ word_of (drop p bs)
  word_is =
      let n : stop - start ≡ letters (drop start bs) = omega arith in
      ap (λ k. take k (drop start bs)) n ∙ ap (λ l. take (letters l) l) rest

  said_is : (ws : List ℕ) → ws ≡ take (stop - start) (drop start bs) → sorted ws start ≡ word_from bs p
  said_is ws e = ap (λ l. sorted l start) (e ∙ word_is) ∙ ap (sorted (word_of (drop p bs))) w.from

  pub none_is : start ≡ stop → end start ≡ word_from bs p
  none_is q =
      let n : stop - start ≡ 0 = omega arith in
      said_is [] (sym (ap (λ k. take k (drop start bs)) n))

  number_sorted : (ws : List ℕ) (n : ℕ) → 0 < length ws → is_number ws ≡ true → word true (token ws n) ≡ sorted ws n
  number_sorted [] n h e = absurd (omega arith)
  number_sorted (b ∷ ws) n h e = ap (λ x. word x (token (b ∷ ws) n)) (sym e)

  name_sorted : (ws : List ℕ) (n : ℕ) → 0 < length ws → is_number ws ≡ false → word false (token ws n) ≡ sorted ws n
  name_sorted [] n h e = absurd (omega arith)
  name_sorted (b ∷ ws) n h e = ap (λ x. word x (token (b ∷ ws) n)) (sym e)

  some : (start ≡ stop → ⊥) → 0 < length (take (stop - start) (drop start bs))
  some ne =
      let h = end_within in
      simp (length-take, length-drop) (omega arith)

  pub number_is : (start ≡ stop → ⊥) → is_number (take (stop - start) (drop start bs)) ≡ true → word true (token (take (stop - start) (drop start bs)) start) ≡ word_from bs p
  number_is ne o = number_sorted _ start (some ne) o ∙ said_is _ refl

  pub name_is : (start ≡ stop → ⊥) → is_number (take (stop - start) (drop start bs)) ≡ false → word false (token (take (stop - start) (drop start bs)) start) ≡ word_from bs p
  name_is ne o = name_sorted _ start (some ne) o ∙ said_is _ refl
