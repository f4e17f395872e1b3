-- The words of a text are those that the reader meets one after another.
use Rattle.std.proofs.Common.{◌≡◌, ℕ, zero, suc, ◌+◌, ◌<◌, ◌≤◌, Bool, true, false, cond, List, [], ◌∷◌, length, take, drop, sym, refl, ap, ◌∙◌, true≢false, one-add, arith}
use Rattle.std.proofs.lemmas.List.{drop-drop, length-drop}
use Rattle.std.proofs.lemmas.List.Sums.{prefix_len-le-length}
use Rattle.std.proofs.lemmas.Bool.{cond-true, cond-false, not-true, not_from_false}
use Rattle.words.specs.Numbers.{is_number}
use Rattle.words.specs.Words.{white, Token, token, lengthen, opens_word, tokens, skipped, letters, word_of, after, word, end, sorted, said_of, word_from, said_before}

skip_by : (t : Bool) (p b : ℕ) (l : List ℕ) → white b ≡ t → tokens (p + 1) l ≡ tokens (p + 1 + skipped l) (drop (skipped l) l) → tokens p (b ∷ l) ≡ tokens (p + cond t (1 + skipped l) 0) (drop (cond t (1 + skipped l) 0) (b ∷ l))
skip_by true p b l e ih =
    cond-true _ _ _ e
    ∙ ih
    ∙ ap (λ n. tokens n (drop (skipped l) l)) (omega arith)
    ∙ ap (λ n. tokens (p + (1 + skipped l)) (drop n (b ∷ l))) (sym (one-add (skipped l)))
skip_by false p b l e ih = ap (λ n. tokens n (b ∷ l)) (omega arith)

-- white space in front adds no word
pub skip_tokens : (p : ℕ) (l : List ℕ) → tokens p l ≡ tokens (p + skipped l) (drop (skipped l) l)
skip_tokens p [] = refl
skip_tokens p (b ∷ l) = skip_by (white b) p b l refl (skip_tokens (p + 1) l)

no_letters : (l : List ℕ) → opens_word l ≡ false → letters l ≡ 0
no_letters [] e = refl
no_letters (b ∷ l) e = cond-false _ _ _ e

pub some_letters : (l : List ℕ) → opens_word l ≡ true → 0 < letters l
some_letters [] e = absurd (true≢false (sym e))
some_letters (b ∷ l) e = let q : letters (b ∷ l) ≡ 1 + letters l = cond-true _ _ _ e in omega arith

word_by : (t : Bool) (p b : ℕ) (l : List ℕ) → opens_word l ≡ t → (opens_word l ≡ true → tokens (p + 1) l ≡ token (take (letters l) l) (p + 1) ∷ tokens (p + 1 + letters l) (drop (letters l) l)) → cond t (lengthen b p (tokens (p + 1) l)) (token (b ∷ []) p ∷ tokens (p + 1) l) ≡ token (b ∷ take (letters l) l) p ∷ tokens (p + suc (letters l)) (drop (letters l) l)
word_by true p b l e ih = ap (lengthen b p) (ih e) ∙ ap (λ n. token (b ∷ take (letters l) l) p ∷ tokens n (drop (letters l) l)) (omega arith)
word_by false p b l e ih =
    let z = no_letters l e in
    ap (λ n. token (b ∷ take n l) p ∷ tokens (p + 1) (drop n l)) (sym z) ∙ ap (λ n. token (b ∷ take (letters l) l) p ∷ tokens n (drop (letters l) l)) (omega arith)

-- a run of other bytes in front is the first word
pub word_tokens : (p : ℕ) (l : List ℕ) → opens_word l ≡ true → tokens p l ≡ token (take (letters l) l) p ∷ tokens (p + letters l) (drop (letters l) l)
word_tokens p [] e = absurd (true≢false (sym e))
word_tokens p (b ∷ l) e =
    let n : suc (letters l) ≡ letters (b ∷ l) = sym (one-add (letters l)) ∙ sym (cond-true _ _ _ e) in
    cond-false _ _ _ (not-true (white b) e)
    ∙ word_by (opens_word l) p b l refl (word_tokens (p + 1) l)
    ∙ ap (λ n. token (take n (b ∷ l)) p ∷ tokens (p + n) (drop n (b ∷ l))) n

-- behind white space stands a word or nothing
none_left_by : (t : Bool) (b : ℕ) (l : List ℕ) → white b ≡ t → (opens_word (drop (skipped l) l) ≡ false → drop (skipped l) l ≡ []) → opens_word (drop (cond t (1 + skipped l) 0) (b ∷ l)) ≡ false → drop (cond t (1 + skipped l) 0) (b ∷ l) ≡ []
none_left_by true b l e ih o =
    let q = one-add (skipped l) in
    ap (λ n. drop n (b ∷ l)) q ∙ ih (ap (λ n. opens_word (drop n (b ∷ l))) (sym q) ∙ o)
none_left_by false b l e ih o = absurd (true≢false (sym (not_from_false (white b) e) ∙ o))

none_left : (l : List ℕ) → opens_word (drop (skipped l) l) ≡ false → drop (skipped l) l ≡ []
none_left [] e = refl
none_left (b ∷ l) e = none_left_by (white b) b l refl (none_left l) e

sorted_some : (ws : List ℕ) (n : ℕ) → 0 < length ws → sorted ws n ≡ said_of (token ws n)
sorted_some [] n h = absurd (omega arith)
sorted_some (b ∷ ws) n h = refl

front_some : (n : ℕ) (l : List ℕ) → 0 < n → opens_word l ≡ true → 0 < length (take n l)
front_some zero l h o = absurd (omega arith)
front_some (suc n) [] h o = absurd (true≢false (sym o))
front_some (suc n) (b ∷ l) h o = omega arith

first_by : (p s : ℕ) (l m : List ℕ) → drop s l ≡ m → (t : Bool) → opens_word m ≡ t → (opens_word m ≡ false → m ≡ []) → tokens (p + s) m ≡ said_before (sorted (take (letters m) m) (p + s)) (tokens (p + (s + letters m)) (drop (s + letters m) l))
first_by p s l m d true o e =
    let q = sorted_some (take (letters m) m) (p + s) (front_some (letters m) m (some_letters m o) o) in
    word_tokens (p + s) m o
    ∙ ap (λ n. token (take (letters m) m) (p + s) ∷ tokens n (drop (letters m) m)) (omega arith)
    ∙ ap (λ k. token (take (letters m) m) (p + s) ∷ tokens (p + (s + letters m)) k) (ap (drop (letters m)) (sym d) ∙ drop-drop (letters m) s l)
    ∙ sym (ap (λ w. said_before w (tokens (p + (s + letters m)) (drop (s + letters m) l))) q)
first_by p s l m d false o e =
    let z : m ≡ [] = e o in
    ap (tokens (p + s)) z ∙ sym (ap (λ k. said_before (sorted (take (letters k) k) (p + s)) (tokens (p + (s + letters m)) (drop (s + letters m) l))) z)

pub tokens-first : (p : ℕ) (l : List ℕ) → tokens p l ≡ said_before (sorted (word_of l) (p + skipped l)) (tokens (p + after l) (drop (after l) l))
tokens-first p l = skip_tokens p l ∙ first_by p (skipped l) l (drop (skipped l) l) refl (opens_word (drop (skipped l) l)) refl (none_left l)

pub tokens-next : (bs : List ℕ) (p : ℕ) → tokens p (drop p bs) ≡ said_before (word_from bs p) (tokens (p + after (drop p bs)) (drop (p + after (drop p bs)) bs))
tokens-next bs p =
    tokens-first p (drop p bs)
    ∙ ap (λ k. said_before (word_from bs p) (tokens (p + after (drop p bs)) k)) (drop-drop (after (drop p bs)) p bs)

-- what a reader says of a word is what the word is
pub said_is_word : (ws : List ℕ) (n : ℕ) (b : Bool) (t : Token) → sorted ws n ≡ word b t → b ≡ is_number t.bytes
said_is_word [] n b t e = let z : ◌≡◌ {A = ℕ} 0 1 = cc in absurd (omega arith)
said_is_word (x ∷ ws) n b t e = cc

-- a word that is no end moves the reader
pub word_moves : (ws : List ℕ) (k : ℕ) (n : ℕ) (b : Bool) (t : Token) → sorted (take k ws) n ≡ word b t → 0 < k
word_moves ws zero n b t e = let z : ◌≡◌ {A = ℕ} 0 1 = cc in absurd (omega arith)
word_moves ws (suc k) n b t e = omega arith

-- the end is said at the text's end
end_said_by : (m : List ℕ) (n k : ℕ) → (t : Bool) → opens_word m ≡ t → (opens_word m ≡ false → m ≡ []) → sorted (take (letters m) m) n ≡ end k → (m ≡ []) × (n ≡ k)
end_said_by m n k true o e q =
    let s = sorted_some (take (letters m) m) n (front_some (letters m) m (some_letters m o) o) in
    let z : ◌≡◌ {A = ℕ} 0 1 = cc in absurd (omega arith)
end_said_by m n k false o e q =
    let z : m ≡ [] = e o in
    let s : sorted (take (letters m) m) n ≡ end n = ap (λ l. sorted (take (letters l) l) n) z in
    (z, cc)

pub end_said : (bs : List ℕ) (p k : ℕ) → p ≤ length bs → word_from bs p ≡ end k → k ≡ length bs
end_said bs p k h e =
    let m = drop (skipped (drop p bs)) (drop p bs) in
    let q = end_said_by m (p + skipped (drop p bs)) k (opens_word m) refl (none_left (drop p bs)) e in
    let a = prefix_len-le-length white (drop p bs) in
    let b : length (drop (skipped (drop p bs)) (drop p bs)) ≡ 0 = ap length q.0 in
    let c = length-drop (skipped (drop p bs)) (drop p bs) in
    let d = length-drop p bs in
    omega (arith, q.1)
