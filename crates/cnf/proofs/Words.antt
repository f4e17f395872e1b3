-- What the bits of a word of 32 bits say of it.
use Rattle.std.proofs.Common.{◌≡◌, zero, suc, true, false, ℤ, pos, negsuc, refl, ap, arith, w32, SFits, of_z}
use Rattle.cnf.specs.Tables.{is_zero}

pub zero_is : (w : ℤ) → SFits w32 w → of_z w32 w ≡ 0 → is_zero w ≡ true
zero_is (pos n) f e = ap (λ k. is_zero (pos k)) e
zero_is (negsuc n) f e = absurd (omega (arith, f.sfits))

pub other_is : (w : ℤ) → (of_z w32 w ≡ 0 → ⊥) → is_zero w ≡ false
other_is (pos zero) ne = absurd (ne refl)
other_is (pos (suc n)) ne = refl
other_is (negsuc n) ne = refl
