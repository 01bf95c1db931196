-- The lowest bit of a number: a number that is not 0 is an odd number times 2 ^ t, where t are its trailing zeros. What members such a number
-- has, and without that bit.
use Prim.Native.Nat.{ℕ, zero, suc, ◌+◌, ◌-◌, ◌*◌, ◌/◌, ◌%◌, ◌^◌, ◌≤◌, ◌<◌}
use mathlib.Core.Bool.{true, false}
use mathlib.Core.Path.{◌≡◌, sym, ap, ◌∙◌, subst}
use native.Mathlib.Nat.{mul_assoc, mul-one, pow-suc, div-lt_iff_lt-mul}
use native.Mathlib.Omega.{arith}
use lib.Arith.{digits_mod}
use lib.Bits.{shifted_even}
use lib.Count.{count_trailing_zeros}
use lib.Dec.{eqb}
use lib.Pow.{pow-add, shl-shr, shr-shr}
use borrow.Author.Tests.{eqb-true, eqb-false}
use Rattle.basics.proofs.Basics.{by_bool}
use Rattle.model.specs.Sets.{member}

-- "x > 0 with t trailing zeros is 2 ^ t times an odd number"
abbrev pub OddTimes : ℕ → ℕ → Type 0
OddTimes x t = (m : ℕ) × (x ≡ (m * 2 + 1) * 2 ^ t)

pub lowest-bit : (k x : ℕ) → 0 < x → x < 2 ^ k → OddTimes x (count_trailing_zeros k x)
unfolding count_trailing_zeros
lowest-bit zero x p h = absurd (omega arith)
lowest-bit (suc k) x p h =
    by_bool (eqb (x % 2) 0)
    (λ e.
    let z = eqb-true (x % 2) 0 e in
    let half : x / 2 < 2 ^ k = (div-lt_iff_lt-mul (omega arith)).1 (rw (← (pow-suc 2 k)) h) in
    let below = lowest-bit k (x / 2) (omega arith) half in
    let twice : x ≡ x / 2 * 2 = omega arith in
    let odd = below.0 * 2 + 1 in
    let t = count_trailing_zeros k (x / 2) in
    rw z (below.0, twice ∙ ap (λ n. n * 2) below.1 ∙ mul_assoc odd (2 ^ t) 2 ∙ ap (λ n. odd * n) (sym (pow-suc 2 t))))
    (λ e.
    let one : x % 2 ≡ 1 = omega (arith, eqb-false (x % 2) 0 e) in
    rw one (x / 2, rw mul-one (omega arith)))

-- a number times 2 ^ t has no member up to t
low_bit : (a e i : ℕ) → member (a * 2 ^ (suc e + i)) (suc i) ≡ false
unfolding member
low_bit a e i = rw (pow-add 2 (suc e) i, ← (mul_assoc a (2 ^ suc e) (2 ^ i)), shl-shr, shifted_even)

pub members-low : (a t j : ℕ) → 1 ≤ j → j ≤ t → member (a * 2 ^ t) j ≡ false
members-low a t zero f h = absurd (omega arith)
members-low a t (suc i) f h =
    let w : suc (t - suc i) + i ≡ t = omega arith in
    subst (λ (n : ℕ). member (a * 2 ^ n) (suc i) ≡ false) w (low_bit a (t - suc i) i)

-- an odd one has the member t + 1
pub member-here : (m t : ℕ) → member ((m * 2 + 1) * 2 ^ t) (suc t) ≡ true
unfolding member
member-here m t = let odd : (m * 2 + 1) % 2 ≡ 1 = digits_mod m (omega arith) in rw (shl-shr, odd)

-- and above it the members that it has without that bit
above-bit : (a t e : ℕ) → a * 2 ^ t / 2 ^ (t + (1 + e)) ≡ a / 2 / 2 ^ e
above-bit a t e = sym (shr-shr (a * 2 ^ t) t (1 + e)) ∙ rw shl-shr (sym (shr-shr a 1 e))

pub members-above : (m t j : ℕ) → suc t < j → member ((m * 2 + 1) * 2 ^ t) j ≡ member (m * 2 * 2 ^ t) j
unfolding member
members-above m t zero h = absurd (omega arith)
members-above m t (suc i) h =
    let e = i - suc t in
    let w : t + (1 + e) ≡ i = omega arith in
    let half : (m * 2 + 1) / 2 ≡ m * 2 / 2 = omega arith in
    let same = above-bit (m * 2 + 1) t e ∙ ap (λ n. n / 2 ^ e) half ∙ sym (above-bit (m * 2) t e) in
    ap (λ n. eqb (n % 2) 1) (rw w at same)
