-- The members of a set of bits, and how many there are.
use Rattle.std.proofs.Common.{◌≡◌, ℕ, zero, suc, ◌+◌, ◌-◌, ◌*◌, ◌/◌, ◌%◌, ◌^◌, ◌<◌, ◌≤◌, Bool, true, false, cond, not, eqb, List, Some, None, Option, MatchOption, IsSome, length, get_or, set, replicate, sym, refl, ap, ◌∙◌, ap₂, ⊎_elim, mul-zero, arith}
use mathlib.Core.Bool.{beq}
use lib.Bits.{bit_xor}
use Rattle.std.proofs.lemmas.Bool.{cases_eq, false≢true, eq-eqb, ne_eqb, cond-true, cond-false}
use Rattle.std.proofs.lemmas.Nat.{one_shl}
use Rattle.std.proofs.lemmas.List.{get_or_past, get_or-set_same, get_or-set_other}
use Rattle.formula.specs.Entries.{bit}
use Rattle.formula.specs.Occurrences.{passing}
use Rattle.formula.proofs.Sums.{at_all, sum_to_same, sum_to_change, sum_to_const}
use Rattle.formula.proofs.Lists.{length-passing}
use Rattle.bitset.specs.Bits.{bit_at, has}
use Rattle.bitset.proofs.Bits.{bit_turned, bit_kept, zero_bit}

-- one number more or less among those that pass
passing_change : (n i : ℕ) (p q : ℕ → Bool) → i < n → ((k : ℕ) → (k ≡ i → ⊥) → q k ≡ p k) → length (passing q n) + bit (p i) ≡ length (passing p n) + bit (q i)
passing_change n i p q l e =
    omega (arith, length-passing p n, length-passing q n, sum_to_change n (λ k. bit (p k)) (λ k. bit (q k)) i l (λ k _ ne. ap bit (e k ne)))

pub none_passing : (n : ℕ) (p : ℕ → Bool) → ((k : ℕ) → p k ≡ false) → length (passing p n) ≡ 0
none_passing n p e = length-passing p n ∙ (sum_to_same n (λ k. bit (p k)) (λ _. 0) (λ k _. ap bit (e k)) ∙ (sum_to_const n 0 ∙ mul-zero n))

pub zeros : (n i : ℕ) → get_or {A = ℕ} (replicate n 0) i 0 ≡ 0
zeros zero i = refl
zeros (suc n) zero = refl
zeros (suc n) (suc i) = zeros n i

-- words that are all 0
pub has_none : (n k : ℕ) → has (replicate n 0) k ≡ false
unfolding has
has_none n k = ap (λ w. bit_at w (k % 64)) (zeros n (k / 64)) ∙ zero_bit (k % 64)

pub counted_none : (n : ℕ) → 0 ≡ length (passing (has (replicate n 0)) 1024)
counted_none n = sym (none_passing 1024 (has (replicate n 0)) (has_none n))

-- the words with the bit of k turned, as the code turns it
abbrev pub turned : List ℕ → ℕ → List ℕ
turned ws k = set ws (k / 64) (bit_xor (get_or ws (k / 64) 0) ((1 * 2 ^ (k % 64)) % 2 ^ 64))

module _ (ws : List ℕ) (k : ℕ) (l : k < 1024) (size : length ws ≡ 16) where
  abbrev word : ℕ
  word = get_or ws (k / 64) 0

  new : get_or (turned ws k) (k / 64) 0 ≡ bit_xor word (2 ^ (k % 64))
  new = get_or-set_same ws (k / 64) _ 0 (omega (arith, size)) ∙ ap (bit_xor word) (one_shl (k % 64) 64 (omega arith))

  pub turned_same : has (turned ws k) k ≡ not (has ws k)
  unfolding has
  turned_same = ap (λ w. bit_at w (k % 64)) new ∙ bit_turned word (k % 64)

  pub turned_other : (j : ℕ) → (j ≡ k → ⊥) → has (turned ws k) j ≡ has ws j
  unfolding has
  turned_other j ne =
      ⊎_elim
      (λ (q : j / 64 ≡ k / 64).
      let apart : j % 64 ≡ k % 64 → ⊥ = λ r. ne (omega arith) in
      ap (λ i. bit_at (get_or (turned ws k) i 0) (j % 64)) q
      ∙ (ap (λ w. bit_at w (j % 64)) new
      ∙ (bit_kept word (k % 64) (j % 64) apart
      ∙ ap (λ i. bit_at (get_or ws i 0) (j % 64)) (sym q))))
      (λ (q : j / 64 ≡ k / 64 → ⊥). ap (λ w. bit_at w (j % 64)) (get_or-set_other ws (k / 64) (j / 64) _ 0 q))
      (cases_eq (j / 64) (k / 64))

  module _ (b : Bool) (e : has ws k ≡ not b) where
    back : (b : Bool) → not (not b) ≡ b
    back true = refl
    back false = refl

    pub turned_members : (j : ℕ) → has (turned ws k) j ≡ cond (eqb j k) b (has ws j)
    turned_members =
        at_all (λ j. has (turned ws k) j ≡ cond (eqb j k) b (has ws j)) k
        (turned_same ∙ (ap not e ∙ (back b ∙ sym (cond-true _ _ _ (eq-eqb k k refl)))))
        (λ j ne. turned_other j ne ∙ sym (cond-false _ _ _ (ne_eqb j k ne)))

    pub turned_number : length (passing (has (turned ws k)) 1024) + bit (not b) ≡ length (passing (has ws) 1024) + bit b
    turned_number =
        let a : bit (has ws k) ≡ bit (not b) = ap bit e in
        let c : bit (has (turned ws k) k) ≡ bit b = ap bit (turned_same ∙ (ap not e ∙ back b)) in
        omega (arith, passing_change 1024 k (has ws) (has (turned ws k)) l turned_other)

pub differs : (a b : Bool) → not (beq a b) ≡ true → a ≡ not b
differs true true e = sym e
differs true false e = refl
differs false true e = refl
differs false false e = absurd (false≢true e)

-- the members that a word has
pub has_in : (ws : List ℕ) (w j : ℕ) → w * 64 ≤ j → j < w * 64 + 64 → has ws j ≡ bit_at (get_or ws w 0) (j - w * 64)
unfolding has
has_in ws w j p q =
    let d : j / 64 ≡ w = omega arith in
    let m : j % 64 ≡ j - w * 64 = omega arith in
    ap₂ (λ i z. bit_at (get_or ws i 0) z) d m

pub has_outside : (ws : List ℕ) (j : ℕ) → length ws ≡ 16 → 1024 ≤ j → has ws j ≡ false
unfolding has
has_outside ws j size l = ap (λ w. bit_at w (j % 64)) (get_or_past ws (j / 64) 0 (omega (arith, size))) ∙ zero_bit (j % 64)

pub some_unless : (r : Option ℕ) (A : Type 0) (B : ℕ → Type 0) → MatchOption r A B → (A → ⊥) → IsSome r
some_unless None A B h never = absurd (never h)
some_unless (Some x) A B h never = refl
