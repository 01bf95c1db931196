-- A number read digit by digit, at most the largest after each.
use Prim.Native.Nat.{ℕ, ◌+◌, ◌-◌, ◌*◌, ◌≤◌, ◌<◌, min}
use mathlib.Core.Bool.{true, false, cond}
use mathlib.Core.List.{List, [], ◌∷◌}
use mathlib.Core.Path.{◌≡◌, sym, ◌∙◌}
use native.Mathlib.Nat.{min-eq_left}
use native.Mathlib.Numerals.{add-one}
use native.Mathlib.Omega.{arith}
use lib.ListN.{length, get_or, drop, drop_of_length-le}
use lib.Seq.{drop-cons}
use Rattle.std.specs.Prelude.{Option, Some, None}
use Rattle.player_numbers.specs.Numbers.{is_digit, all_digits, no_leading_zero, value}
use Rattle.plan_numbers.specs.Given.{largest, parameter}

-- what is left to read, behind the digits of n
abbrev pub number_from : ℕ → List ℕ → Option ℕ
number_from n bs = cond (all_digits bs) (Some (min (value n bs) largest)) None

pub number-begun : (bs : List ℕ) → no_leading_zero bs ≡ true → parameter bs ≡ number_from 0 bs
unfolding parameter
number-begun bs h = rw h

pub leading-zero : (bs : List ℕ) → no_leading_zero bs ≡ false → parameter bs ≡ None
unfolding parameter
leading-zero bs h = rw h

-- staying at the largest before a digit, or before all that are left, changes nothing of what stays there behind them
digit-limited : (v d : ℕ) → min (min v largest * 10 + d) largest ≡ min (v * 10 + d) largest
digit-limited v d = omega arith

value-limited : (v : ℕ) (bs : List ℕ) → min (value (min v largest) bs) largest ≡ min (value v bs) largest
unfolding value
value-limited v [] = omega arith
value-limited v (b ∷ bs) = sym (value-limited (min v largest * 10 + (b - 48)) bs) ∙ rw (digit-limited v (b - 48)) (value-limited (v * 10 + (b - 48)) bs)

module _ (bs : List ℕ) (n i : ℕ) where
  pub digit_at : i < length bs → is_digit (get_or bs i 0) ≡ true → number_from n (drop i bs) ≡ number_from (min (n * 10 + (get_or bs i 0 - 48)) largest) (drop (i + 1) bs)
  unfolding all_digits value
  digit_at h d = rw (add-one, drop-cons bs i 0 h, d, value-limited)

  pub other_at : i < length bs → is_digit (get_or bs i 0) ≡ false → number_from n (drop i bs) ≡ None
  unfolding all_digits
  other_at h d = rw (drop-cons bs i 0 h, d)

  pub number-ended : length bs ≤ i → n ≤ largest → number_from n (drop i bs) ≡ Some n
  unfolding all_digits value
  number-ended h l = rw (drop_of_length-le bs {i = i} h, min-eq_left l)
