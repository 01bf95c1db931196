-- Document 01, "The player": what bytes say as a number.
use Rattle.std.specs.Prelude.{ℕ, ◌+◌, ◌-◌, ◌*◌, Bool, true, false, not, ◌&&◌, cond, List, [], ◌∷◌, leb, eqb, Option, Some, None}

-- "Numbers are 0 to 999 without leading zeros." The digits are bytes 48 to 57.
abbrev pub is_digit : ℕ → Bool
is_digit b = leb 48 b && leb b 57

unfoldable pub all_digits : List ℕ → Bool
all_digits [] = true
all_digits (b ∷ bs) = is_digit b && all_digits bs

-- one byte, or more of which the first is not 48
unfoldable pub no_leading_zero : List ℕ → Bool
no_leading_zero [] = false
no_leading_zero (b ∷ []) = true
no_leading_zero (b ∷ c ∷ bs) = not (eqb b 48)

-- the value of the digits of n followed by these
unfoldable pub value : ℕ → List ℕ → ℕ
value n [] = n
value n (b ∷ bs) = value (n * 10 + (b - 48)) bs

-- the number that bytes are, if they are one
unfoldable pub number : List ℕ → Option ℕ
number bs = cond (no_leading_zero bs && (all_digits bs && leb (value 0 bs) 999)) (Some (value 0 bs)) None
