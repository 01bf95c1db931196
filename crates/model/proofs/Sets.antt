-- Laws of sets as numbers: what the code's shifts and its bitwise and say of them.
use Prim.Native.Nat.{ℕ, zero, suc, ◌+◌, ◌/◌, ◌%◌, ◌^◌, min, ◌≤◌, ◌<◌}
use mathlib.Core.Path.{◌≡◌, refl, sym, ap, ◌∙◌}
use mathlib.Core.Logic.{◌≢◌}
use mathlib.Core.Bool.{Bool, true, false, not, ◌&&◌, ◌||◌}
use native.Mathlib.Omega.{arith}
use lib.Dec.{eqb, ltb}
use lib.Bits.{bit_and, and_step, and_shr, and_le_l, and_le_r, and_comm}
use native.Mathlib.Nat.{div-lt_iff_lt-mul, zero-div}
use lib.Arith.{digits_mod}
use lib.Pow.{pow_pos, shr-shr}
use borrow.Author.Tests.{eqb-true, eqb-false, eq-eqb, ne_eqb, lt-ltb, le-ltb, ltb-true, ltb-false}
use Rattle.basics.specs.Helpers.{any, count}
use Rattle.model.specs.Sets.{member, meet, names, contains, strictly_contains, nested}
use Rattle.basics.proofs.Basics.{by_bool, clash, and_split, and_second, all-at, all_of, any_of, any_none, count-filled}

-- bit i of the bitwise and is the smaller of the two bits
and-bit : (a b i : ℕ) → bit_and a b / 2 ^ i % 2 ≡ min (a / 2 ^ i % 2) (b / 2 ^ i % 2)
and-bit a b i =
    rw (and_shr a b i, and_step (a / 2 ^ i) (b / 2 ^ i))
    (digits_mod (bit_and (a / 2 ^ i / 2) (b / 2 ^ i / 2)) (omega arith))

-- a number below 2 ^ n with no bit is 0
pub no_bits : (x n : ℕ) → x < 2 ^ n → ((i : ℕ) → i < n → x / 2 ^ i % 2 ≡ 0) → x ≡ 0
no_bits x zero l h = omega arith
no_bits x (suc n) l h =
    let top : x / 2 ^ n < 2 = (div-lt_iff_lt-mul (pow_pos n)).1 (omega arith) in
    let low : x / 2 ^ n < 1 = omega (arith, h n (omega arith)) in
    no_bits x n (omega (arith, (div-lt_iff_lt-mul (pow_pos n)).0 low)) (λ i g. h i (omega arith))

-- two sets of sites 1 to n share a site unless their bitwise and is 0
pub meet-and : (n a b : ℕ) → a < 2 ^ n → meet n a b ≡ not (eqb (bit_and a b) 0)
unfolding meet member
meet-and n a b l =
    by_bool (eqb (bit_and a b) 0)
    (λ e. rw e (any_none _ n (λ k f t. apart k f (eqb-true (bit_and a b) 0 e))))
    (λ e. rw e (by_bool (any (λ m. member a m && member b m) n)
    (λ t. t)
    (λ t. absurd (eqb-false (bit_and a b) 0 e (no_bits (bit_and a b) n (omega (arith, and_le_l a b)) (λ i g. together i (none-at t (suc i) (omega arith) (omega arith))))))))
  where
    apart : (k : ℕ) → 1 ≤ k → bit_and a b ≡ 0 → member a k && member b k ≡ false
    apart zero f e = absurd (omega arith)
    apart (suc i) f e =
        let z = rw (e, zero-div) at (and-bit a b i) in
        by_bool (member a (suc i))
        (λ x. by_bool (member b (suc i))
        (λ y. let u = eqb-true (a / 2 ^ i % 2) 1 x in let v = eqb-true (b / 2 ^ i % 2) 1 y in absurd (omega arith))
        (λ y. and_second (member a (suc i)) (member b (suc i)) y))
        (λ x. rw x)

    none-at : any (λ m. member a m && member b m) n ≡ false → (k : ℕ) → 1 ≤ k → k ≤ n → member a k && member b k ≡ false
    none-at t k f g = by_bool (member a k && member b k) (λ u. clash _ (any_of (λ m. member a m && member b m) n k f g u) t) (λ u. u)

    together : (i : ℕ) → member a (suc i) && member b (suc i) ≡ false → bit_and a b / 2 ^ i % 2 ≡ 0
    together i e =
        let z = and-bit a b i in
        by_bool (member a (suc i))
        (λ x. let v = eqb-false (b / 2 ^ i % 2) 1 (rw x at e) in omega arith)
        (λ x. let u = eqb-false (a / 2 ^ i % 2) 1 x in omega arith)

-- as the code tests it: nothing is left of the set once its n low bits are gone
pub names-shift : (n s : ℕ) → s ≢ 0 → names n s ≡ eqb (s / 2 ^ n) 0
unfolding names
names-shift n s h =
    rw (ne_eqb s 0 h)
    (by_bool (eqb (s / 2 ^ n) 0)
    (λ e. let w : s / 2 ^ n < 1 = omega (arith, eqb-true (s / 2 ^ n) 0 e) in rw e (lt-ltb s (2 ^ n) (omega (arith, (div-lt_iff_lt-mul (pow_pos n)).0 w))))
    (λ e. let z = eqb-false (s / 2 ^ n) 0 e in rw e (le-ltb s (2 ^ n) (big z))))
  where
    big : s / 2 ^ n ≢ 0 → 2 ^ n ≤ s
    big z = by_bool (ltb s (2 ^ n))
        (λ t. let l = ltb-true s (2 ^ n) t in absurd (z (let w : s / 2 ^ n < 1 = (div-lt_iff_lt-mul (pow_pos n)).1 (omega arith) in omega arith)))
        (λ t. ltb-false s (2 ^ n) t)

pub names-empty : (n : ℕ) → names n 0 ≡ false
unfolding names
names-empty n = refl

-- a set that names sites 1 to n only is below 2 ^ n
pub names-below : (n s : ℕ) → names n s ≡ true → s < 2 ^ n
unfolding names
names-below n s e = ltb-true s (2 ^ n) (and_split (not (eqb s 0)) (ltb s (2 ^ n)) e).1

-- Containment

-- a member of both
pub member-and : (a b k : ℕ) → member (bit_and a b) k ≡ member a k && member b k
unfolding member
member-and a b zero = refl
member-and a b (suc i) = rw (and-bit a b i) (smaller (a / 2 ^ i % 2) (b / 2 ^ i % 2) (omega arith) (omega arith))
  where
    smaller : (x y : ℕ) → x < 2 → y < 2 → eqb (min x y) 1 ≡ eqb x 1 && eqb y 1
    smaller zero zero h l = refl
    smaller zero (suc zero) h l = refl
    smaller zero (suc (suc y)) h l = absurd (omega arith)
    smaller (suc zero) zero h l = refl
    smaller (suc zero) (suc zero) h l = refl
    smaller (suc zero) (suc (suc y)) h l = absurd (omega arith)
    smaller (suc (suc x)) y h l = absurd (omega arith)

-- sets of sites 1 to n with the same members are one
pub same-members : (n a b : ℕ) → a < 2 ^ n → b < 2 ^ n → ((k : ℕ) → 1 ≤ k → k ≤ n → member a k ≡ member b k) → a ≡ b
unfolding member
same-members zero a b l m h = omega arith
same-members (suc n) a b l m h =
    let low = lowest-bit (h 1 (omega arith) (omega arith)) in
    let rest = same-members n (a / 2) (b / 2) (omega arith) (omega arith) higher in
    omega arith
  where
    half : (x i : ℕ) → member (x / 2) (suc i) ≡ member x (suc (suc i))
    half x i = let e : 1 + i ≡ suc i = omega arith in ap (λ y. eqb (y % 2) 1) (rw e at (shr-shr x 1 i))

    higher : (k : ℕ) → 1 ≤ k → k ≤ n → member (a / 2) k ≡ member (b / 2) k
    higher zero c d = absurd (omega arith)
    higher (suc i) c d = half a i ∙ h (suc (suc i)) (omega arith) (omega arith) ∙ sym (half b i)

    lowest-bit : member a 1 ≡ member b 1 → a % 2 ≡ b % 2
    lowest-bit e =
        by_bool (member a 1)
        (λ t. let x = eqb-true (a / 2 ^ 0 % 2) 1 t in let y = eqb-true (b / 2 ^ 0 % 2) 1 (sym e ∙ t) in omega arith)
        (λ t. let x = eqb-false (a / 2 ^ 0 % 2) 1 t in let y = eqb-false (b / 2 ^ 0 % 2) 1 (sym e ∙ t) in omega arith)

-- as the code tests it: the bitwise and leaves nothing of b out
pub contains-and : (n a b : ℕ) → b < 2 ^ n → contains n a b ≡ eqb (bit_and a b) b
unfolding contains
contains-and n a b l =
    by_bool (eqb (bit_and a b) b)
    (λ t. rw t (all_of _ n (λ k c d. within k (eqb-true (bit_and a b) b t))))
    (λ t. rw t (by_bool (contains n a b) (λ u. absurd (eqb-false (bit_and a b) b t (same-members n (bit_and a b) b (omega (arith, and_le_r a b)) l (λ k c d. both k (all-at _ n k u c d))))) (λ u. u)))
  where
    within : (k : ℕ) → bit_and a b ≡ b → not (member b k) || member a k ≡ true
    within k e =
        let m : member b k ≡ member a k && member b k = rw e at (member-and a b k) in
        by_bool (member a k)
        (λ x. by_bool (member b k) (λ y. rw (x, y)) (λ y. rw y))
        (λ x. let z = rw x at m in rw z)

    both : (k : ℕ) → not (member b k) || member a k ≡ true → member (bit_and a b) k ≡ member b k
    both k e =
        rw (member-and a b k)
        (by_bool (member b k)
        (λ y. let x = rw y at e in rw (x, y))
        (λ y. rw (y, and_second (member a k) false refl)))

-- one of two sets of sites 1 to n strictly contains the other where they differ and their bitwise and is one of them
pub nested-and : (n a b : ℕ) → a < 2 ^ n → b < 2 ^ n → nested n a b ≡ not (eqb a b) && (eqb (bit_and a b) a || eqb (bit_and a b) b)
unfolding nested strictly_contains
nested-and n a b l m =
    let x = contains-and n a b m in
    let y = rw (and_comm b a) at (contains-and n b a l) in
    rw (x, y)
    (by_bool (eqb (bit_and a b) a)
    (λ t. by_bool (eqb (bit_and a b) b)
    (λ u. rw (t, u, eq-eqb a b (sym (eqb-true _ _ t) ∙ eqb-true _ _ u)))
    (λ u. rw (t, u, ne_eqb a b (λ e. eqb-false _ _ u (eqb-true _ _ t ∙ e)))))
    (λ t. by_bool (eqb (bit_and a b) b)
    (λ u. rw (t, u, ne_eqb a b (λ e. eqb-false _ _ t (eqb-true _ _ u ∙ sym e))))
    (λ u. rw (t, u, and_second (not (eqb a b)) false refl))))

-- of two equally large sets neither strictly contains the other
pub equal-not-nested : (n a b : ℕ) → count (member a) n ≡ count (member b) n → nested n a b ≡ false
unfolding nested strictly_contains contains
equal-not-nested n a b e = rw (not-strictly a b e, not-strictly b a (sym e))
  where
    implies : (x y : Bool) → not x || y ≡ true → x ≡ true → y ≡ true
    implies x y e t = rw t at e

    implied : (x y : Bool) → (x ≡ true → y ≡ true) → not x || y ≡ true
    implied true y h = h refl
    implied false y h = refl

    not-strictly : (a b : ℕ) → count (member a) n ≡ count (member b) n → strictly_contains n a b ≡ false
    not-strictly a b e =
        by_bool (contains n a b)
        (λ t. rw (
          t,
          all_of (λ m. not (member a m) || member b m) n (λ k c d.
              implied (member a k) (member b k) (count-filled (member b) (member a) n (λ i f g u. implies (member b i) (member a i) (all-at _ n i t f g) u) (omega arith) k c d)),
        ))
        (λ t. rw t)
