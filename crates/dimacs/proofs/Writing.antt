-- How the words of a table are laid one behind another.
use Rattle.std.proofs.Common.{◌≡◌, ℕ, zero, suc, ◌+◌, ◌<◌, ◌≤◌, Bool, false, cond, leb, List, [], ◌∷◌, ◌++◌, length, get_or, take, drop, ℤ, pos, Ok, Err, sym, refl, ap, ◌∙◌, append_assoc, arith, length-append}
use Rattle.std.specs.List.{flat_map, AllByRecursion}
use Rattle.std.specs.Fmt.{signed_decimal}
use Rattle.std.proofs.lemmas.Fmt.{decimal_digit}
use Rattle.std.proofs.lemmas.List.{at_drop_more, take_more, flat_map_more}
use Rattle.lay.specs.Laid.{laid}
use Rattle.cnf.specs.declared.refusal.Check.TheVariants.{BytesRoom}
use Rattle.cnf.specs.Refusals.{refused}
use Rattle.cnf.specs.Tables.{is_zero, Literal, Clause, Legal, spelled, clauses_of}
use Rattle.cnf.specs.Scans.{and_then, table_checked}
use Rattle.cnf.proofs.Legal.{literal_word, accepted_is_legal, legal_clauses, clauses_spell}
use Rattle.dimacs.specs.Writes.{clause_line, head_line, table_text, written, piece, words_text}
use Rattle.dimacs.proofs.Accepted.{spells_length}

pub length-piece : (w : ℤ) → length (piece w) ≡ length (signed_decimal w) + 1
length-piece w = simp length-append

front_length : (xs : List ℤ) (n : ℕ) → length (words_text (take n xs)) ≤ length (words_text xs)
front_length xs zero = omega arith
front_length [] (suc n) = omega arith
front_length (x ∷ xs) (suc n) = let h = front_length xs n in simp length-append (omega arith)

module _ (ws : List ℤ) (i : ℕ) (h : i < length ws) where
  pub width_more : length (words_text (drop i ws)) ≡ length (signed_decimal (get_or ws i (pos 0))) + 1 + length (words_text (drop (i + 1) ws))
  width_more =
      let e = ap length (at_drop_more words_text ws i (pos 0) h) in
      let l = length-append (piece (get_or ws i (pos 0))) (words_text (drop (i + 1) ws)) in
      let p = length-piece (get_or ws i (pos 0)) in
      omega arith

  pub text_more : words_text (take i ws) ++ piece (get_or ws i (pos 0)) ≡ words_text (take (i + 1) ws)
  text_more = flat_map_more piece [] (take i ws) (get_or ws i (pos 0)) ∙ sym (ap words_text (take_more ws i (pos 0) h))

  pub piece_room : length (words_text (take i ws)) + length (piece (get_or ws i (pos 0))) ≤ length (words_text ws)
  piece_room =
      let e = ap length text_more in
      let l = length-append (words_text (take i ws)) (piece (get_or ws i (pos 0))) in
      omega (arith, front_length ws (i + 1))

-- a word with the byte behind it
pub piece_is : (w : ℤ) (b : Bool) → is_zero w ≡ b → signed_decimal w ++ (cond b 10 32 ∷ []) ≡ piece w
piece_is w b e = ap (λ x. signed_decimal w ++ (cond x 10 32 ∷ [])) (sym e)

-- the words of a clause are its line
line_is : (v : ℕ) (c rest : List ℤ) → AllByRecursion (Literal v) c → words_text (c ++ (pos 0 ∷ rest)) ≡ clause_line c ++ words_text rest
line_is v [] rest h = ap (λ l. (l ++ (10 ∷ [])) ++ words_text rest) (decimal_digit 0 (omega arith))
line_is v (w ∷ c) rest h =
    ap (λ l. l ++ words_text (c ++ (pos 0 ∷ rest))) (sym (piece_is w false (literal_word w h.0.0)))
    ∙ append_assoc (signed_decimal w) (32 ∷ []) (words_text (c ++ (pos 0 ∷ rest)))
    ∙ ap (λ l. signed_decimal w ++ (32 ∷ l)) (line_is v c rest h.1)
    ∙ sym (append_assoc (signed_decimal w) (32 ∷ clause_line c) (words_text rest))

lines_are : (v : ℕ) (cs : List (List ℤ)) → AllByRecursion (Clause v) cs → words_text (spelled cs) ≡ flat_map clause_line cs
lines_are v [] h = refl
lines_are v (c ∷ cs) h = line_is v c (spelled cs) h.0.1 ∙ ap (λ l. clause_line c ++ l) (lines_are v cs h.1)

module _ (v : ℕ) (ws : List ℤ) (n : ℕ) (e : table_checked v ws ≡ Ok n) where
  legal : Legal v ws
  legal = (accepted_is_legal v ws n e).0

  number : length (clauses_of ws) ≡ n
  unfolding legal
  number = ap length (legal_clauses v ws legal) ∙ (accepted_is_legal v ws n e).1

  pub text_is : head_line v n ++ words_text ws ≡ table_text v (clauses_of ws)
  text_is =
      ap (λ k. head_line v k ++ words_text ws) (sym number)
      ∙ ap (λ l. head_line v (length (clauses_of ws)) ++ l) (ap words_text legal.words ∙ lines_are v legal.clauses legal.each ∙ ap (flat_map clause_line) (sym (legal_clauses v ws legal)))

  pub text_length : length (head_line v n) + length (words_text ws) ≡ length (table_text v (clauses_of ws))
  text_length = sym (length-append (head_line v n) (words_text ws)) ∙ ap length text_is

  pub few_words : length ws ≤ 5120
  few_words =
      let l = ap length legal.words in
      let s = spells_length (clauses_spell v legal.clauses legal.each) in
      omega (arith, legal.number.1, legal.literals)

  pub written_is : (room : ℕ) → written v ws room ≡ cond (leb (length (table_text v (clauses_of ws))) room) (Ok (length (table_text v (clauses_of ws)))) (Err (refused BytesRoom 0))
  written_is room = ap (λ r. and_then r (λ _. cond (leb (length (table_text v (clauses_of ws))) room) (Ok (length (table_text v (clauses_of ws)))) (Err (refused BytesRoom 0)))) e

-- bytes laid at the front
pub laid_front : (out bs : List ℕ) → laid out 0 bs ≡ bs ++ drop (length bs) out
laid_front out bs = ap (λ n. bs ++ drop n out) (omega arith)
