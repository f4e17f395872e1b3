-- What is written of a number is that number's form.
use Rattle.std.proofs.Common.{◌≡◌, ℕ, zero, suc, ◌+◌, ◌-◌, ◌*◌, ◌/◌, ◌%◌, ◌^◌, ◌<◌, ◌≤◌, true, false, ◌&&◌, eqb, leb, List, [], ◌∷◌, ◌++◌, length, get_or, ℤ, pos, negsuc, neg_ℤ, nat_abs, decimal, sym, refl, ap, ◌∙◌, subst, arith, length-append}
use Rattle.std.specs.List.{AllByRecursion}
use Rattle.std.specs.Fmt.{signed_decimal}
use Rattle.std.proofs.lemmas.Fmt.{decimal_by_steps, decimal_digit, first_decimal, length-decimal-le}
use Rattle.std.proofs.lemmas.Bool.{cond-false, and_from, and_parts, le-leb, leb-true, ne_eqb, or_right, not_from_false}
use Rattle.std.proofs.lemmas.Bool.Decides.{nat_tests}
use Rattle.words.specs.Numbers.{within, digits, counting, zero_word, minus, unsigned, decimal_after, decimal_value}
use Rattle.words.specs.Words.{white, dark}
use Rattle.dimacs.specs.Heads.{in_line}
use Rattle.dimacs.specs.Grammar.{Numeral}

counting-digits : (bs : List ℕ) → 49 ≤ get_or bs 0 0 → digits bs ≡ counting bs
counting-digits [] l = absurd (omega arith)
counting-digits (b ∷ bs) l = ap (λ t. t && digits bs) (let e : within 48 57 b ≡ within 49 57 b = grind (arith, nat_tests) in e)

digits_append : (xs ys : List ℕ) → digits xs ≡ true → digits ys ≡ true → digits (xs ++ ys) ≡ true
digits_append [] ys a b = b
digits_append (x ∷ xs) ys a b = let p = and_parts (within 48 57 x) (digits xs) a in and_from _ _ p.0 (digits_append xs ys p.1 b)

after_append : (n : ℕ) (xs ys : List ℕ) → decimal_after n (xs ++ ys) ≡ decimal_after (decimal_after n xs) ys
after_append n [] ys = refl
after_append n (x ∷ xs) ys = after_append (n * 10 + (x - 48)) xs ys

-- the bytes are digits, some of them, and their value is n
record Writes (n : ℕ) (ds : List ℕ) : Type 0 where
  are : digits ds ≡ true
  value : decimal_value ds ≡ n
  some : 0 < length ds

digit_is : (n : ℕ) → n < 10 → within 48 57 (48 + n) ≡ true
digit_is n h = and_from _ _ (le-leb 48 (48 + n) (omega arith)) (le-leb (48 + n) 57 (omega arith))

writes_one : (n : ℕ) → n < 10 → Writes n ((48 + n) ∷ [])
writes_one n h = record { are = and_from _ _ (digit_is n h) refl; value = omega arith; some = omega arith }

writes_more : (n : ℕ) (ds : List ℕ) → 10 ≤ n → Writes (n / 10) ds → Writes n (ds ++ ((48 + n % 10) ∷ []))
writes_more n ds h w =
    let l : n % 10 < 10 = omega arith in
    let v : decimal_after 0 (ds ++ ((48 + n % 10) ∷ [])) ≡ decimal_after 0 ds * 10 + (48 + n % 10 - 48) = after_append 0 ds ((48 + n % 10) ∷ []) in
    record { are = digits_append ds _ w.are (and_from _ _ (digit_is (n % 10) l) refl); value = omega (arith, w.value); some = simp length-append (omega arith) }

writes : (n : ℕ) → n < 2 ^ 64 → Writes n (decimal n)
writes n h = decimal_by_steps Writes writes_one writes_more n h

digit_bytes : (P : ℕ → Type 0) → ((b : ℕ) → 48 ≤ b → b ≤ 57 → P b) → (ds : List ℕ) → digits ds ≡ true → AllByRecursion P ds
digit_bytes P f [] e = tt
digit_bytes P f (b ∷ ds) e =
    let p = and_parts (within 48 57 b) (digits ds) e in
    let q = and_parts (leb 48 b) (leb b 57) p.0 in
    (f b (leb-true 48 b q.0) (leb-true b 57 q.1), digit_bytes P f ds p.1)

dark-from : (b : ℕ) → 33 ≤ b → dark b ≡ true
dark-from b h = not_from_false (white b) (let e : white b ≡ false = grind (arith, nat_tests) in e)

pub in_line_from : (b : ℕ) → 33 ≤ b → in_line b ≡ true
in_line_from b h = not_from_false (eqb b 10) (ne_eqb b 10 (λ e. omega arith))

module _ (n : ℕ) (h : n < 2 ^ 64) where
  pub decimal-dark : AllByRecursion (λ b. dark b ≡ true) (decimal n)
  decimal-dark = digit_bytes (λ b. dark b ≡ true) (λ b l u. dark-from b (omega arith)) (decimal n) (writes n h).are

  pub decimal_in_line : AllByRecursion (λ b. in_line b ≡ true) (decimal n)
  decimal_in_line = digit_bytes (λ b. in_line b ≡ true) (λ b l u. in_line_from b (omega arith)) (decimal n) (writes n h).are

  pub decimal_nonempty : 0 < length (decimal n)
  decimal_nonempty = (writes n h).some

unsigned_same : (ds : List ℕ) → 48 < get_or ds 0 0 → (unsigned ds ≡ ds) × (minus ds ≡ false)
unsigned_same [] l = absurd (omega arith)
unsigned_same (b ∷ ds) l = let e = ne_eqb b 45 (λ e. omega arith) in (cond-false _ _ _ e, e)

pub decimal-counting : (n : ℕ) → 0 < n → n < 2 ^ 64 → counting (decimal n) ≡ true
decimal-counting n p h = sym (counting-digits (decimal n) (omega (arith, first_decimal n p h))) ∙ (writes n h).are

-- a number above 0 as it is written
pub plain_numeral : (n : ℕ) → 0 < n → n < 2 ^ 64 → Numeral (decimal n) (pos n)
plain_numeral n p h =
    let u = unsigned_same (decimal n) (first_decimal n p h) in
    record {
      form = or_right (zero_word (decimal n)) _ (ap counting u.0 ∙ decimal-counting n p h);
      value = cond-false _ _ _ u.1 ∙ ap pos (ap decimal_value u.0 ∙ (writes n h).value);
    }

-- and below 0
negated_numeral : (n : ℕ) → suc n < 2 ^ 64 → Numeral (45 ∷ decimal (suc n)) (negsuc n)
negated_numeral n h = record {
  form = or_right (zero_word (45 ∷ decimal (suc n))) _ (decimal-counting (suc n) (omega arith) h);
  value = ap (λ m. neg_ℤ (pos m)) (writes (suc n) h).value;
}

zero_numeral : Numeral (decimal 0) (pos 0)
zero_numeral = subst (λ w. Numeral w (pos 0)) (sym (decimal_digit 0 (omega arith))) (record { form = refl; value = refl })

pub signed_numeral : (z : ℤ) → nat_abs z ≤ 256 → Numeral (signed_decimal z) z
signed_numeral (pos zero) h = zero_numeral
signed_numeral (pos (suc n)) h = plain_numeral (suc n) (omega arith) (omega arith)
signed_numeral (negsuc n) h = negated_numeral n (omega arith)

pub signed_dark : (z : ℤ) → nat_abs z ≤ 256 → AllByRecursion (λ b. dark b ≡ true) (signed_decimal z)
signed_dark (pos n) h = decimal-dark n (omega arith)
signed_dark (negsuc n) h = (refl, decimal-dark (suc n) (omega arith))

pub signed_nonempty : (z : ℤ) → nat_abs z ≤ 256 → 0 < length (signed_decimal z)
signed_nonempty (pos n) h = decimal_nonempty n (omega arith)
signed_nonempty (negsuc n) h = omega arith

pub signed_short : (z : ℤ) → nat_abs z ≤ 256 → length (signed_decimal z) ≤ 4
signed_short (pos n) h = omega (arith, length-decimal-le 3 n (omega arith) (omega arith) (omega arith))
signed_short (negsuc n) h = omega (arith, length-decimal-le 3 (suc n) (omega arith) (omega arith) (omega arith))
