-- A number read digit by digit.
use Prim.Native.Nat.{ℕ, ◌+◌, ◌-◌, ◌*◌, ◌≤◌, ◌<◌}
use mathlib.Core.Bool.{true, false, not, ◌&&◌, cond}
use mathlib.Core.List.{List, [], ◌∷◌}
use mathlib.Core.Path.{◌≡◌, refl}
use native.Mathlib.Omega.{arith}
use native.Mathlib.Numerals.{add-one}
use Rattle.std.specs.Prelude.{Option, Some, None}
use borrow.Author.Tests.{leb-true, le-leb, lt-leb}
use lib.Dec.{leb, eqb}
use lib.ListN.{length, get_or, drop, drop_of_length-le}
use lib.Seq.{drop-cons}
use Rattle.basics.proofs.Basics.{by_bool, and_split, and_second}
use Rattle.player_numbers.specs.Numbers.{is_digit, all_digits, no_leading_zero, value, number}

-- what is left to read, behind the digits of n
abbrev pub number_from : ℕ → List ℕ → Option ℕ
number_from n bs = cond (all_digits bs && leb (value n bs) 999) (Some (value n bs)) None

pub number-begun : (bs : List ℕ) → no_leading_zero bs ≡ true → number bs ≡ number_from 0 bs
unfolding number
number-begun bs h = rw h

pub leading-zero : (bs : List ℕ) → no_leading_zero bs ≡ false → number bs ≡ None
unfolding number
leading-zero bs h = rw h

module _ (bs : List ℕ) (n i : ℕ) (h : i < length bs) where
  pub digit_at : is_digit (get_or bs i 0) ≡ true → number_from n (drop i bs) ≡ number_from (n * 10 + (get_or bs i 0 - 48)) (drop (i + 1) bs)
  unfolding all_digits value
  digit_at d = rw (add-one, drop-cons bs i 0 h, d)

  pub other_at : is_digit (get_or bs i 0) ≡ false → number_from n (drop i bs) ≡ None
  unfolding all_digits
  other_at d = rw (drop-cons bs i 0 h, d)

pub number-ended : (bs : List ℕ) (n i : ℕ) → length bs ≤ i → n ≤ 999 → number_from n (drop i bs) ≡ Some n
unfolding all_digits value
number-ended bs n i h l = rw (drop_of_length-le bs {i = i} h, le-leb n 999 l)

value_grows : (n : ℕ) (bs : List ℕ) → n ≤ value n bs
unfolding value
value_grows n [] = omega arith
value_grows n (b ∷ bs) = omega (arith, value_grows (n * 10 + (b - 48)) bs)

pub too_large : (n : ℕ) (bs : List ℕ) → 999 < n → number_from n bs ≡ None
too_large n bs h =
    let g = value_grows n bs in
    rw (and_second (all_digits bs) (leb (value n bs) 999) (lt-leb (value n bs) 999 (omega arith)))

-- a number is 999 at most
pub number-limit : (bs : List ℕ) (n : ℕ) → number bs ≡ Some n → n ≤ 999
unfolding number
number-limit bs n h =
    by_bool (no_leading_zero bs && (all_digits bs && leb (value 0 bs) 999))
    (λ e.
    let p = and_split (no_leading_zero bs) (all_digits bs && leb (value 0 bs) 999) e in
    let q = and_split (all_digits bs) (leb (value 0 bs) 999) p.1 in
    let l = leb-true (value 0 bs) 999 q.1 in
    let g : Some (value 0 bs) ≡ Some n = rw e at h in
    let z : value 0 bs ≡ n = cc in
    omega arith)
    (λ e. let g : ◌≡◌ {A = Option ℕ} None (Some n) = rw e at h in let z : ◌≡◌ {A = ℕ} 0 1 = cc in absurd (omega arith))

-- the tests of a leading zero
pub no_byte : (bs : List ℕ) → length bs ≡ 0 → false ≡ no_leading_zero bs
unfolding no_leading_zero
no_byte [] h = refl
no_byte (b ∷ bs) h = absurd (omega arith)

pub one_byte : (bs : List ℕ) → length bs ≡ 1 → true ≡ no_leading_zero bs
unfolding no_leading_zero
one_byte [] h = absurd (omega arith)
one_byte (b ∷ []) h = refl
one_byte (b ∷ c ∷ bs) h = absurd (omega arith)

pub more_bytes : (bs : List ℕ) → (length bs ≡ 0 → ⊥) → (length bs ≡ 1 → ⊥) → not (eqb (get_or bs 0 0) 48) ≡ no_leading_zero bs
unfolding no_leading_zero
more_bytes [] h g = absurd (h refl)
more_bytes (b ∷ []) h g = absurd (g refl)
more_bytes (b ∷ c ∷ bs) h g = refl
