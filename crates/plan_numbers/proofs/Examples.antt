-- The numbers of some words, by calculation.
use mathlib.Core.Bool.{true, false}
use mathlib.Core.List.{[], ◌∷◌}
use mathlib.Core.Path.{◌≡◌, refl}
use lib.ListN.{replicate, get_or}
use Rattle.player_numbers.specs.Numbers.{all_digits, no_leading_zero, value}
use Rattle.std.specs.Prelude.{Some, None}
use Rattle.plan_numbers.specs.Given.{largest, parameter, nothing_given, with_number, gone_wrong, with_read, with_words, given}

-- `0`, `10`, the largest number, one more, and 21 digits
numbers :
    (parameter (48 ∷ []) ≡ Some 0)
    × (parameter (49 ∷ 48 ∷ []) ≡ Some 10)
    × (parameter (49 ∷ 56 ∷ 52 ∷ 52 ∷ 54 ∷ 55 ∷ 52 ∷ 52 ∷ 48 ∷ 55 ∷ 51 ∷ 55 ∷ 48 ∷ 57 ∷ 53 ∷ 53 ∷ 49 ∷ 54 ∷ 49 ∷ 53 ∷ []) ≡ Some largest)
    × (parameter (49 ∷ 56 ∷ 52 ∷ 52 ∷ 54 ∷ 55 ∷ 52 ∷ 52 ∷ 48 ∷ 55 ∷ 51 ∷ 55 ∷ 48 ∷ 57 ∷ 53 ∷ 53 ∷ 49 ∷ 54 ∷ 49 ∷ 54 ∷ []) ≡ Some largest)
    × (parameter (replicate 21 57) ≡ Some largest)
unfolding parameter no_leading_zero all_digits value
numbers = (refl, refl, refl, refl, refl)

-- `007`, `3a`, no byte
no-numbers : (parameter (48 ∷ 48 ∷ 55 ∷ []) ≡ None) × (parameter (51 ∷ 97 ∷ []) ≡ None) × (parameter [] ≡ None)
unfolding parameter no_leading_zero all_digits value
no-numbers = (refl, refl, refl)

-- `3`, `1`: two numbers in their order
two : ((given ((51 ∷ []) ∷ (49 ∷ []) ∷ [])).count ≡ 2) × (get_or (given ((51 ∷ []) ∷ (49 ∷ []) ∷ [])).numbers 0 0 ≡ 3) × (get_or (given ((51 ∷ []) ∷ (49 ∷ []) ∷ [])).numbers 1 0 ≡ 1)
unfolding with_words with_read with_number nothing_given parameter no_leading_zero all_digits value
two = (refl, refl, refl)

-- `3`, `x`, `1`: one is no number; of 32 words all are counted
wrong : (given ((51 ∷ []) ∷ (120 ∷ []) ∷ (49 ∷ []) ∷ [])).wrong ≡ true
unfolding with_words with_read with_number gone_wrong nothing_given parameter no_leading_zero all_digits value
wrong = refl

many : ((given (replicate 32 (49 ∷ []))).count ≡ 32) × ((given (replicate 32 (49 ∷ []))).wrong ≡ false)
unfolding with_words with_read with_number nothing_given parameter no_leading_zero all_digits value
many = (refl, refl)
