-- The entries of a clause of words.
use Rattle.std.proofs.Common.{◌≡◌, ℕ, zero, suc, ◌+◌, ◌<◌, ◌≤◌, Bool, true, false, cond, ◌||◌, eqb, List, [], ◌∷◌, ◌++◌, length, ℤ, pos, negsuc, sym, refl, ap, ◌∙◌, subst, ap₂, arith}
use Rattle.std.proofs.lemmas.Bool.{ne_eqb, eqb-false, or_parts, or_from}
use Rattle.std.proofs.lemmas.List.{length-append, append-nil}
use Rattle.formula.specs.declared.entry.Entry.{Entry}
use Rattle.formula.specs.Clauses.{sum_to}
use Rattle.formula.specs.Entries.{bit, any_of, is_plain, is_negated, entry_of, kept, entries_to, named_in, Distinct, Signed}
use Rattle.formula.proofs.Sums.{bit_le, sum_to_le, sum_to_one, sum_to_add}
use Rattle.formula.proofs.Counts.{named_append}

abbrev pub hit : ℕ → List ℤ → Bool
hit v c = any_of (is_plain v) c || any_of (is_negated v) c

abbrev pub word : ℕ → ℤ → Bool
word v l = is_plain v l || is_negated v l

word_one : (n : ℕ) (l : ℤ) → sum_to n (λ v. bit (word v l)) ≤ 1
word_one n (pos zero) = sum_to_one n _ 0 (bit_le (word 0 (pos zero))) (λ k _. ap (λ b. bit (b || false)) (ne_eqb 0 (suc k) (λ e. omega arith)))
word_one n (pos (suc m)) = sum_to_one n _ m (bit_le (word m (pos (suc m)))) (λ k ne. ap (λ b. bit (b || false)) (ne_eqb (suc m) (suc k) (λ e. ne (omega arith))))
word_one n (negsuc m) = sum_to_one n _ m (bit_le (word m (negsuc m))) (λ k ne. ap bit (ne_eqb m k (λ e. ne (sym e))))

bits_or : (p q r s : Bool) → bit ((p || q) || (r || s)) ≤ bit (p || r) + bit (q || s)
bits_or true q r s = omega arith
bits_or false true true s = omega arith
bits_or false true false s = omega arith
bits_or false false true s = omega arith
bits_or false false false true = omega arith
bits_or false false false false = omega arith

hits : (n : ℕ) (c : List ℤ) → sum_to n (λ v. bit (hit v c)) ≤ length c
hits n [] = let z = sum_to_one n (λ _. 0) n (omega arith) (λ k _. refl) in none n
  where
    none : (n : ℕ) → sum_to n (λ v. bit (hit v [])) ≤ 0
    none zero = omega arith
    none (suc n) = omega (arith, none n)
hits n (l ∷ ls) =
    let a = sum_to_le n (λ v. bit (hit v (l ∷ ls))) (λ v. bit (word v l) + bit (hit v ls)) (λ v _. bits_or (is_plain v l) (any_of (is_plain v) ls) (is_negated v l) (any_of (is_negated v) ls)) in
    omega (arith, sum_to_add n (λ v. bit (word v l)) (λ v. bit (hit v ls)), word_one n l, hits n ls)

length_normal : (c : List ℤ) (n : ℕ) → length (entries_to c n) ≡ sum_to n (λ v. bit (hit v c))
length_normal c zero = refl
length_normal c (suc n) = length-append (entries_to c n) (kept (entry_of c n)) ∙ ap₂ ◌+◌ (length_normal c n) (go (hit n c) (entry_of c n))
  where
    go : (b : Bool) (e : Entry) → length (cond b (e ∷ []) []) ≡ bit b
    go true e = refl
    go false e = refl

pub normal_short : (c : List ℤ) (n : ℕ) → length (entries_to c n) ≤ length c
normal_short c n = omega (arith, length_normal c n, hits n c)

-- the variables of the first n are below n
pub normal_below : (c : List ℤ) (n y : ℕ) → n ≤ y → named_in (entries_to c n) y ≡ false
normal_below c zero y l = refl
normal_below c (suc n) y l =
    named_append (entries_to c n) (kept (entry_of c n)) y
    ∙ (ap (λ b. b || named_in (kept (entry_of c n)) y) (normal_below c n y (omega arith)) ∙ go (hit n c))
  where
    go : (b : Bool) → named_in (cond b (entry_of c n ∷ []) []) y ≡ false
    go true = ap (λ b. b || false) (ne_eqb n y (λ e. omega arith))
    go false = refl

distinct_push : (xs : List Entry) (e : Entry) → Distinct xs → named_in xs e.variable ≡ false → Distinct (xs ++ (e ∷ []))
distinct_push [] e d h = (refl, tt)
distinct_push (x ∷ xs) e d h =
    let ps = or_parts (eqb x.variable e.variable) (named_in xs e.variable) h in (
      named_append xs (e ∷ []) x.variable ∙ or_from _ _ d.0 (or_from _ _ (ne_eqb _ _ (λ q. eqb-false _ _ ps.0 (sym q))) refl),
      distinct_push xs e d.1 ps.1,
    )

distinct_kept : (b : Bool) (xs : List Entry) (e : Entry) → Distinct xs → named_in xs e.variable ≡ false → Distinct (xs ++ cond b (e ∷ []) [])
distinct_kept true xs e d h = distinct_push xs e d h
distinct_kept false xs e d h = subst Distinct (sym (append-nil xs)) d

pub normal_distinct : (c : List ℤ) (n : ℕ) → Distinct (entries_to c n)
normal_distinct c zero = tt
normal_distinct c (suc n) = distinct_kept (hit n c) (entries_to c n) (entry_of c n) (normal_distinct c n) (normal_below c n n (omega arith))

signed_push : (v : ℕ) (xs : List Entry) (e : Entry) → Signed v xs → e.variable < v → (e.plain || e.negated) ≡ true → Signed v (xs ++ (e ∷ []))
signed_push v [] e s l h = ((l, h), tt)
signed_push v (x ∷ xs) e s l h = (s.0, signed_push v xs e s.1 l h)

signed_kept : (v : ℕ) (b : Bool) (xs : List Entry) (e : Entry) → Signed v xs → e.variable < v → (e.plain || e.negated) ≡ b → Signed v (xs ++ cond b (e ∷ []) [])
signed_kept v true xs e s l h = signed_push v xs e s l h
signed_kept v false xs e s l h = subst (Signed v) (sym (append-nil xs)) s

pub normal_signed : (v : ℕ) (c : List ℤ) (n : ℕ) → n ≤ v → Signed v (entries_to c n)
normal_signed v c zero l = tt
normal_signed v c (suc n) l = signed_kept v (hit n c) (entries_to c n) (entry_of c n) (normal_signed v c n (omega arith)) (omega arith) refl
