-- A number below zero is its minus and the digits of its magnitude, and any other is these digits.
use Rattle.std.proofs.Common.{◌≡◌, true, false, ◌∷◌, ℤ, pos, negsuc, nat_abs, decimal, refl, arith}
use lib.Signed.{lt_z}
use Rattle.std.proofs.lemmas.Bool.{ltb-true, true≢false}
use Rattle.std.specs.Fmt.{signed_decimal}

pub signed_below : (z : ℤ) → lt_z z (pos 0) ≡ true → signed_decimal z ≡ 45 ∷ decimal (nat_abs z)
signed_below (pos n) h = absurd (omega (arith, ltb-true n 0 h))
signed_below (negsuc n) h = refl

pub signed_other : (z : ℤ) → lt_z z (pos 0) ≡ false → signed_decimal z ≡ decimal (nat_abs z)
signed_other (pos n) h = refl
signed_other (negsuc n) h = absurd (true≢false h)
