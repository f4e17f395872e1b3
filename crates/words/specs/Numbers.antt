-- A number is `0`, or an optional `-`, a digit 1 to 9 and further digits.
use Rattle.std.specs.Prelude.{ℕ, ◌+◌, ◌-◌, ◌*◌, Bool, true, false, cond, ◌&&◌, ◌||◌, List, [], ◌∷◌, ℤ, pos, neg_ℤ, Ok, Err, Result, ◌==◌, nat_le}
use Rattle.words.specs.declared.faults.WordFault.{WordFault}
use Rattle.words.specs.declared.faults.WordFault.TheVariants.{NotANumber, TooLarge}

abbrev pub within : ℕ → ℕ → ℕ → Bool
within a b x = nat_le a x && nat_le x b

abbrev pub digits : List ℕ → Bool
digits [] = true
digits (b ∷ bs) = within 48 57 b && digits bs

-- a digit 1 to 9 and further digits
abbrev pub counting : List ℕ → Bool
counting [] = false
counting (b ∷ bs) = within 49 57 b && digits bs

abbrev pub zero_word : List ℕ → Bool
zero_word [] = false
zero_word (b ∷ []) = b == 48
zero_word (b ∷ c ∷ bs) = false

abbrev pub minus : List ℕ → Bool
minus [] = false
minus (b ∷ bs) = b == 45

abbrev pub unsigned : List ℕ → List ℕ
unsigned [] = []
unsigned (b ∷ bs) = cond (b == 45) bs (b ∷ bs)

abbrev pub is_number : List ℕ → Bool
is_number bs = zero_word bs || counting (unsigned bs)

-- the number that digits write after n
abbrev pub decimal_after : ℕ → List ℕ → ℕ
decimal_after n [] = n
decimal_after n (b ∷ bs) = decimal_after (n * 10 + (b - 48)) bs

abbrev pub decimal_value : List ℕ → ℕ
decimal_value bs = decimal_after 0 bs

abbrev pub magnitude_of : List ℕ → ℕ
magnitude_of bs = decimal_value (unsigned bs)

abbrev pub value_of : List ℕ → ℤ
value_of bs = cond (minus bs) (neg_ℤ (pos (magnitude_of bs))) (pos (magnitude_of bs))

-- the value of a number's form that stands at the place p
abbrev pub valued : List ℕ → ℕ → Result ℤ WordFault
valued bs p = cond (nat_le (magnitude_of bs) 99999) (Ok (value_of bs)) (Err (TooLarge p))

-- the number that a word is
abbrev pub numbered : List ℕ → ℕ → Result ℤ WordFault
numbered bs p = cond (is_number bs) (valued bs p) (Err (NotANumber p))
