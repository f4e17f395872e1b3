-- The words of bytes are those with which the grammar spaces them.
use Rattle.std.proofs.Common.{◌≡◌, ℕ, suc, ◌+◌, ◌<◌, ◌≤◌, Bool, true, false, cond, List, [], ◌∷◌, ◌++◌, length, take, drop, sym, refl, ap, ◌∙◌, subst, true≢false, one-add, arith}
use Rattle.std.specs.List.{prefix_len, AllByRecursion}
use Rattle.std.proofs.lemmas.List.{take_at, drop_at}
use Rattle.std.proofs.lemmas.Bool.{cond-true, cond-false, not-true, not-false, not_from_true, not_from_false}
use Rattle.words.specs.Words.{white, dark, Token, token, lengthen, opens_word, tokens, skipped, letters}
use Rattle.words.proofs.Tokens.{skip_tokens, word_tokens}
use Rattle.dimacs.specs.Grammar.{Apart, Worded, blank, spaced}

abbrev pub bytes_of : List Token → List (List ℕ)
bytes_of [] = []
bytes_of (t ∷ ts) = t.bytes ∷ bytes_of ts

-- a front that passes is counted whole where what follows it does not
pub leading_front : (p : ℕ → Bool) (s rest : List ℕ) → AllByRecursion (λ b. p b ≡ true) s → prefix_len p rest ≡ 0 → prefix_len p (s ++ rest) ≡ length s
leading_front p [] rest h z = z
leading_front p (b ∷ s) rest h z = cond-true _ _ _ h.0 ∙ one-add (prefix_len p (s ++ rest)) ∙ ap suc (leading_front p s rest h.1 z)

apart_letters : (rest : List ℕ) → Apart rest → prefix_len dark rest ≡ 0
apart_letters [] h = refl
apart_letters (b ∷ rest) h = cond-false _ _ _ (not_from_true (white b) h)

dark-first : (w rest : List ℕ) → 0 < length w → AllByRecursion (λ b. dark b ≡ true) w → (prefix_len white (w ++ rest) ≡ 0) × (opens_word (w ++ rest) ≡ true)
dark-first [] rest h d = absurd (omega arith)
dark-first (b ∷ w) rest h d = (cond-false _ _ _ (not-true (white b) d.0), d.0)

white_only : (s : List ℕ) (p : ℕ) → AllByRecursion (λ b. white b ≡ true) s → tokens p s ≡ []
white_only [] p h = refl
white_only (b ∷ s) p h = cond-true _ _ _ h.0 ∙ white_only s (p + 1) h.1

-- one word behind white space
pub spaced_tokens : (p : ℕ) (s w rest : List ℕ) → AllByRecursion (λ b. white b ≡ true) s → 0 < length w → AllByRecursion (λ b. dark b ≡ true) w → Apart rest → tokens p (s ++ (w ++ rest)) ≡ token w (p + length s) ∷ tokens (p + length s + length w) rest
spaced_tokens p s w rest hs hn hw ha =
    let f = dark-first w rest hn hw in
    let n : skipped (s ++ (w ++ rest)) ≡ length s = leading_front white s (w ++ rest) hs f.0 in
    let m : letters (w ++ rest) ≡ length w = leading_front dark w rest hw (apart_letters rest ha) in
    skip_tokens p (s ++ (w ++ rest))
    ∙ ap (λ k. tokens (p + k) (drop k (s ++ (w ++ rest)))) n
    ∙ ap (tokens (p + length s)) (drop_at s (w ++ rest) (length s) refl)
    ∙ word_tokens (p + length s) (w ++ rest) f.1
    ∙ ap (λ k. token (take k (w ++ rest)) (p + length s) ∷ tokens (p + length s + k) (drop k (w ++ rest))) m
    ∙ ap (λ l. token l (p + length s) ∷ tokens (p + length s + length w) (drop (length w) (w ++ rest))) (take_at w rest (length w) refl)
    ∙ ap (λ l. token w (p + length s) ∷ tokens (p + length s + length w) l) (drop_at w rest (length w) refl)

pub worded_tokens : (p : ℕ) {bs : List ℕ} {ws : List (List ℕ)} → Worded bs ws → bytes_of (tokens p bs) ≡ ws
worded_tokens p (blank s h) = ap bytes_of (white_only s p h)
worded_tokens p (spaced s w rest {ws} hs hn hw ha r) =
    ap bytes_of (spaced_tokens p s w rest hs hn hw ha) ∙ ap (λ l. w ∷ l) (worded_tokens (p + length s + length w) r)

-- one byte of white space more in front
pub white-onto : (b : ℕ) {bs : List ℕ} {ws : List (List ℕ)} → white b ≡ true → Worded bs ws → Worded (b ∷ bs) ws
white-onto b e (blank s h) = blank (b ∷ s) (e, h)
white-onto b e (spaced s w rest hs hn hw ha r) = spaced (b ∷ s) w rest (e, hs) hn hw ha r

apart_after : (l : List ℕ) → opens_word l ≡ false → Apart l
apart_after [] e = tt
apart_after (b ∷ l) e = not-false (white b) e

-- one byte more in front of the first word, which begins at once
longer : (b : ℕ) (l : List ℕ) (ws : List (List ℕ)) → dark b ≡ true → opens_word l ≡ true → Worded l ws → (w : List ℕ) (us : List (List ℕ)) → ws ≡ w ∷ us → Worded (b ∷ l) ((b ∷ w) ∷ us)
longer b l ws d o (blank s h) w us e = let z : ◌≡◌ {A = ℕ} 0 1 = cc in absurd (omega arith)
longer b l ws d o (spaced [] x rest {ws = vs} hs hn hw ha r) w us e =
    let p : x ≡ w = cc in
    let q : vs ≡ us = cc in
    subst (λ y. Worded (b ∷ (x ++ rest)) ((b ∷ y) ∷ us)) p (subst (λ y. Worded (b ∷ (x ++ rest)) ((b ∷ x) ∷ y)) q (spaced [] (b ∷ x) rest tt (omega arith) (d, hw) ha r))
longer b l ws d o (spaced (c ∷ s) x rest {ws = vs} hs hn hw ha r) w us e = absurd (true≢false (sym o ∙ not_from_true (white c) hs.0))

abbrev Opened : List Token → Type 0
Opened [] = ⊥
Opened (t ∷ ts) = Unit {0}

opens_tokens : (p : ℕ) (l : List ℕ) → opens_word l ≡ true → Opened (tokens p l)
opens_tokens p l o = subst Opened (sym (word_tokens p l o)) tt

lengthened : (b p : ℕ) (l : List ℕ) (ts : List Token) → Opened ts → dark b ≡ true → opens_word l ≡ true → Worded l (bytes_of ts) → Worded (b ∷ l) (bytes_of (lengthen b p ts))
lengthened b p l [] n d o r = absurd n
lengthened b p l (t ∷ ts) n d o r = longer b l (t.bytes ∷ bytes_of ts) d o r t.bytes (bytes_of ts) refl

dark_by : (t : Bool) (p b : ℕ) (l : List ℕ) → dark b ≡ true → opens_word l ≡ t → Worded l (bytes_of (tokens (p + 1) l)) → Worded (b ∷ l) (bytes_of (cond t (lengthen b p (tokens (p + 1) l)) (token (b ∷ []) p ∷ tokens (p + 1) l)))
dark_by true p b l d o r = lengthened b p l (tokens (p + 1) l) (opens_tokens (p + 1) l o) d o r
dark_by false p b l d o r = spaced [] (b ∷ []) l tt (omega arith) (d, tt) (apart_after l o) r

byte_by : (t : Bool) (p b : ℕ) (l : List ℕ) → white b ≡ t → Worded l (bytes_of (tokens (p + 1) l)) → Worded (b ∷ l) (bytes_of (cond t (tokens (p + 1) l) (cond (opens_word l) (lengthen b p (tokens (p + 1) l)) (token (b ∷ []) p ∷ tokens (p + 1) l))))
byte_by true p b l e r = white-onto b e r
byte_by false p b l e r = dark_by (opens_word l) p b l (not_from_false (white b) e) refl r

pub tokens_worded : (p : ℕ) (bs : List ℕ) → Worded bs (bytes_of (tokens p bs))
tokens_worded p [] = blank [] tt
tokens_worded p (b ∷ bs) = byte_by (white b) p b bs refl (tokens_worded (p + 1) bs)

-- a word stands where its first byte is
low_by : (t : Bool) (p b : ℕ) (l : List ℕ) (u : Token) (us : List Token) → white b ≡ t → ((u : Token) (us : List Token) → tokens (p + 1) l ≡ u ∷ us → p + 1 ≤ u.place) → tokens p (b ∷ l) ≡ u ∷ us → p ≤ u.place
low_by true p b l u us e ih q = let h = ih u us (sym (cond-true _ _ _ e) ∙ q) in omega arith
low_by false p b l u us e ih q =
    let o = word_tokens p (b ∷ l) (not_from_false (white b) e) in
    let s : token (take (letters (b ∷ l)) (b ∷ l)) p ≡ u = cc in
    let r : p ≡ u.place = ap (λ x. x.place) s in
    omega arith

pub place_low : (p : ℕ) (l : List ℕ) (u : Token) (us : List Token) → tokens p l ≡ u ∷ us → p ≤ u.place
place_low p [] u us e = let z : ◌≡◌ {A = ℕ} 0 1 = cc in absurd (omega arith)
place_low p (b ∷ l) u us e = low_by (white b) p b l u us refl (place_low (p + 1) l) e

at_by : (t : Bool) (p b : ℕ) (l : List ℕ) (u : Token) (us : List Token) → white b ≡ t → tokens p (b ∷ l) ≡ u ∷ us → u.place ≡ p → (rest : List ℕ) × (u.bytes ≡ b ∷ rest)
at_by true p b l u us e q h = absurd (let g = place_low (p + 1) l u us (sym (cond-true _ _ _ e) ∙ q) in omega arith)
at_by false p b l u us e q h =
    let d = not_from_false (white b) e in
    let o = word_tokens p (b ∷ l) d in
    let s : token (take (letters (b ∷ l)) (b ∷ l)) p ≡ u = cc in
    let n : letters (b ∷ l) ≡ suc (letters l) = cond-true _ _ _ d ∙ one-add (letters l) in
    (take (letters l) l, sym (ap (λ x. x.bytes) s) ∙ ap (λ k. take k (b ∷ l)) n)

-- a first word at the first place begins with the first byte
pub first_at : (p : ℕ) (l : List ℕ) (u : Token) (us : List Token) → tokens p l ≡ u ∷ us → u.place ≡ p → (b : ℕ) × (behind : List ℕ) × (rest : List ℕ) × (l ≡ b ∷ behind) × (u.bytes ≡ b ∷ rest)
first_at p [] u us e h = let z : ◌≡◌ {A = ℕ} 0 1 = cc in absurd (omega arith)
first_at p (b ∷ l) u us e h = let r = at_by (white b) p b l u us refl e h in (b, l, r.0, refl, r.1)
