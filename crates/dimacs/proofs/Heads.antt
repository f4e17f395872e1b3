-- How the lines of a head step.
use Rattle.std.proofs.Common.{min, ⊎_elim, ◌≡◌, ℕ, ◌+◌, ◌-◌, ◌<◌, ◌≤◌, Bool, true, false, cond, not, ◌&&◌, eqb, List, [], ◌∷◌, length, get_or, take, drop, Some, None, Option, sym, refl, ap, ◌∙◌, true≢false, one-add, arith}
use Rattle.std.specs.List.{prefix_len}
use Rattle.std.proofs.lemmas.List.{at_drop_more, at_drop_all, drop-drop, length-drop, take_all}
use Rattle.std.proofs.lemmas.List.Sums.{prefix_len-le-length}
use Rattle.std.proofs.lemmas.Bool.{cases_lt, cond-true, cond-false, eq-eqb, ne_eqb, not_from_true, not_from_false, and_parts, and_from, le-ltb, cond_both}
use Rattle.words.specs.Words.{Token, tokens, Said, word, end, said_of, said_before}
use Rattle.words.specs.Readers.{Honest}
use Rattle.dimacs.specs.Heads.{head_from, in_line, line_end, is_p, is_cnf, said_p, problem_line, problem_of, head_of, line_tokens, head_read}

pub in_line_yes : (b : ℕ) → (b ≡ 10 → ⊥) → in_line b ≡ true
in_line_yes b ne = not_from_false (eqb b 10) (ne_eqb b 10 ne)

pub in_line_no : (b : ℕ) → b ≡ 10 → in_line b ≡ false
in_line_no b e = not_from_true (eqb b 10) (eq-eqb b 10 e)

-- inside a comment line its end decides
in_comment_by : (t : Bool) (p b : ℕ) (l : List ℕ) → in_line b ≡ t → (head_from true (p + 1) l ≡ head_from true (p + 1 + prefix_len in_line l) (drop (prefix_len in_line l) l)) → head_from true p (b ∷ l) ≡ head_from true (p + cond t (1 + prefix_len in_line l) 0) (drop (cond t (1 + prefix_len in_line l) 0) (b ∷ l))
in_comment_by true p b l e ih =
    ap (λ x. head_from x (p + 1) l) e
    ∙ ih
    ∙ ap (λ n. head_from true n (drop (prefix_len in_line l) l)) (omega arith)
    ∙ ap (λ n. head_from true (p + (1 + prefix_len in_line l)) (drop n (b ∷ l))) (sym (one-add (prefix_len in_line l)))
in_comment_by false p b l e ih = ap (λ n. head_from true n (b ∷ l)) (omega arith)

in_comment : (p : ℕ) (l : List ℕ) → head_from true p l ≡ head_from true (p + prefix_len in_line l) (drop (prefix_len in_line l) l)
in_comment p [] = omega arith
in_comment p (b ∷ l) = in_comment_by (in_line b) p b l refl (in_comment (p + 1) l)

-- a text from a place on
pub rest_is : (bs : List ℕ) (p : ℕ) → take (length bs - p) (drop p bs) ≡ drop p bs
rest_is bs p = take_all (length bs - p) (drop p bs) (omega (arith, length-drop p bs))

-- a reader that goes on behind the end of a text has no words left
pub tokens_at : (bs : List ℕ) (p : ℕ) → tokens (min p (length bs)) (drop (min p (length bs)) bs) ≡ tokens p (drop p bs)
tokens_at bs p =
    ⊎_elim
    (λ l. ap (λ n. tokens n (drop n bs)) (omega arith))
    (λ g. at_drop_all (tokens (min p (length bs))) bs (min p (length bs)) (omega arith) ∙ sym (at_drop_all (tokens p) bs p g))
    (cases_lt p (length bs))

pub line_end_within : (bs : List ℕ) (p : ℕ) → p ≤ length bs → line_end bs p ≤ length bs
line_end_within bs p h = omega (arith, prefix_len-le-length in_line (drop p bs), length-drop p bs)

module _ (bs : List ℕ) (p : ℕ) (h : p < length bs) (c : get_or bs p 0 ≡ 99) where
  opens_comment : head_from false p (drop p bs) ≡ head_from true p (drop p bs)
  opens_comment =
      at_drop_more (head_from false p) bs p 0 h
      ∙ cond-true _ _ _ (eq-eqb (get_or bs p 0) 99 c)
      ∙ sym (at_drop_more (head_from true p) bs p 0 h ∙ ap (λ x. head_from x (p + 1) (drop (p + 1) bs)) (in_line_yes (get_or bs p 0) (λ e. omega (arith, c))))

  ends_comment : head_from false p (drop p bs) ≡ head_from true (line_end bs p) (drop (line_end bs p) bs)
  ends_comment = opens_comment ∙ in_comment p (drop p bs) ∙ ap (head_from true (line_end bs p)) (drop-drop (prefix_len in_line (drop p bs)) p bs)

  -- the comment is longer than nothing
  pub comment_moves : p < line_end bs p
  comment_moves =
      let e : prefix_len in_line (drop p bs) ≡ 1 + prefix_len in_line (drop (p + 1) bs) = at_drop_more (prefix_len in_line) bs p 0 h ∙ cond-true _ _ _ (in_line_yes (get_or bs p 0) (λ e. omega (arith, c))) in
      omega arith

  pub comment_last : length bs ≤ line_end bs p → head_from false (line_end bs p) (drop (line_end bs p) bs) ≡ head_from false p (drop p bs)
  comment_last l =
      at_drop_all (head_from false (line_end bs p)) bs (line_end bs p) l
      ∙ sym (at_drop_all (head_from true (line_end bs p)) bs (line_end bs p) l)
      ∙ sym ends_comment

  pub comment_more : line_end bs p < length bs → get_or bs (line_end bs p) 0 ≡ 10 → head_from false (line_end bs p + 1) (drop (line_end bs p + 1) bs) ≡ head_from false p (drop p bs)
  comment_more l e =
      sym (ends_comment ∙ at_drop_more (head_from true (line_end bs p)) bs (line_end bs p) 0 l ∙ ap (λ x. head_from x (line_end bs p + 1) (drop (line_end bs p + 1) bs)) (in_line_no (get_or bs (line_end bs p) 0) e))

regroup : (x y z : Bool) → (x && (y && z)) ≡ ((x && y) && (z && true))
regroup true true true = refl
regroup true true false = refl
regroup true false z = refl
regroup false y z = refl

-- five words that the reader says, as a problem line
pub problem_no : (s : ℕ) (a b v c d : Said) (ts : List Token) → problem_line s a b v c d ≡ false → None ≡ problem_of s (said_before a (said_before b (said_before v (said_before c (said_before d ts)))))
problem_no s (end n) b v c d ts e = refl
problem_no s (word x a) (end n) v c d ts e = refl
problem_no s (word x a) (word y b) (end n) c d ts e = refl
problem_no s (word x a) (word y b) (word z v) (end n) d ts e = refl
problem_no s (word x a) (word y b) (word z v) (word w c) (word u d) ts e = refl
problem_no s (word x a) (word y b) (word z v) (word w c) (end n) ts e = sym (cond-false _ _ _ (regroup (is_p a.bytes) (eqb a.place s) (is_cnf b.bytes) ∙ e))

pub problem_yes : (m n s : ℕ) (a b v c d : Said) (ts : List Token) → Honest m v → Honest n c → problem_line s a b v c d ≡ true → Some (v, c) ≡ problem_of s (said_before a (said_before b (said_before v (said_before c (said_before d ts)))))
problem_yes m n s (end k) b v c d ts hv hc e = absurd (true≢false (sym e))
problem_yes m n s (word x a) (end k) v c d ts hv hc e = absurd (true≢false (sym (and_parts (said_p s (word x a)) false e).1))
problem_yes m n s (word x a) (word y b) (end k) c d ts hv hc e = absurd (true≢false (sym (and_parts (is_cnf b.bytes) false (and_parts (said_p s (word x a)) _ e).1).1))
problem_yes m n s (word x a) (word y b) (word z v) (end k) d ts hv hc e = absurd (true≢false (sym (and_parts (is_cnf b.bytes) false (and_parts (said_p s (word x a)) _ e).1).1))
problem_yes m n s (word x a) (word y b) (word z v) (word w c) (word u d) ts hv hc e = absurd (true≢false (sym (and_parts (is_cnf b.bytes) false (and_parts (said_p s (word x a)) _ e).1).1))
problem_yes m n s (word x a) (word y b) (word z v) (word w c) (end k) ts hv hc e =
    let p = and_parts (said_p s (word x a)) _ e in
    let q = and_parts (is_p a.bytes) (eqb a.place s) p.0 in
    let r = and_parts (is_cnf b.bytes) true p.1 in
    ap (λ t. Some (word t v, word w c)) hv ∙ ap (λ t. Some (said_of v, word t c)) hc ∙ sym (cond-true _ _ _ (and_from _ _ q.0 (and_from _ _ q.1 r.0)))

-- the head by its parts
pub head_by : (bs : List ℕ) (s e : ℕ) (w : Option (Said × Said)) → length bs ≤ 65535 → s ≡ head_from false 0 bs → e ≡ line_end bs s → w ≡ problem_of s (tokens s (drop s (take e bs))) → head_of s e w ≡ head_read bs
head_by bs s e w l hs he hw =
    ap (head_of s e) hw
    ∙ ap (λ n. head_of s n (problem_of s (tokens s (drop s (take n bs))))) he
    ∙ ap (λ n. head_of n (line_end bs n) (problem_of n (line_tokens bs n))) hs
    ∙ sym (cond-false _ _ _ (le-ltb 65535 (length bs) l))

head_from-within : (t : Bool) (p : ℕ) (l : List ℕ) → head_from t p l ≤ p + length l
head_from-within true p [] = omega arith
head_from-within true p (b ∷ l) = omega (arith, head_from-within (not (eqb b 10)) (p + 1) l)
head_from-within false p [] = omega arith
head_from-within false p (b ∷ l) = cond_both (eqb b 99) (head_from true (p + 1) l) p (λ n. n ≤ p + length (b ∷ l)) (λ e. omega (arith, head_from-within true (p + 1) l)) (λ e. omega arith)

pub head_start_within : (bs : List ℕ) → head_from false 0 bs ≤ length bs
head_start_within bs = omega (arith, head_from-within false 0 bs)
