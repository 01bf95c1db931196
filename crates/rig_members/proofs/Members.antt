-- Members of a set as bits: where they stand, those of a part of the set, and the lowest one.
use Prim.Native.Nat.{ℕ, zero, suc, ◌+◌, ◌-◌, ◌*◌, ◌/◌, ◌%◌, ◌^◌, ◌≤◌, ◌<◌}
use mathlib.Core.Bool.{true, false}
use mathlib.Core.Path.{◌≡◌, refl, sym, ap, ◌∙◌, subst}
use native.Mathlib.Nat.{mod-lt, mod-eq_of_lt, mul_assoc, one-mul, add-mul, pow-succ', zero-div, div-eq_of_lt}
use native.Mathlib.Omega.{arith}
use lib.Count.{count_trailing_zeros}
use lib.Bits.{bit_and, bit_or}
use lib.Dec.{eqb, ltb}
use Rattle.std.proofs.lemmas.Nat.{and_le_r, or_disjoint}
use Rattle.std.proofs.lemmas.Nat.Bits.{bit_at_and, bit_at-pow_other}
use Rattle.model.proofs.Sets.{no_bits}
use lib.Pow.{pow_pos, pow_mono, pow-lt, field, mod-mod-pow}
use borrow.Author.Tests.{eqb-true, eqb-false, ltb-true, ltb-false}
use Rattle.basics.proofs.Basics.{by_bool, clash, lowest-none, lowest-found}
use Rattle.model.specs.Sets.{member}
use Rattle.rig_members.specs.Walk.{word_bits, within, lowest_member, without_member}
use Rattle.rig_members.proofs.Lowest.{lowest-bit, members-low, member-here, members-above}

-- Where a member stands.

pub member-zero : (j : ℕ) → member 0 j ≡ false
unfolding member
member-zero zero = refl
member-zero (suc i) = rw zero-div

member-none : (set : ℕ) → member set 0 ≡ false
unfolding member
member-none set = refl

-- a set with member i + 1 is 2 ^ i at least
member-least : (x i : ℕ) → member x (suc i) ≡ true → 2 ^ i ≤ x
unfolding member
member-least x i e =
    by_bool (ltb x (2 ^ i))
    (λ l. let z : x / 2 ^ i ≡ 0 = div-eq_of_lt (ltb-true x (2 ^ i) l) in clash (eqb (x / 2 ^ i % 2) 1) e (rw z))
    (λ l. ltb-false x (2 ^ i) l)

-- so its place is below the set's length in bits
member-place : (n x i : ℕ) → x < 2 ^ n → member x (suc i) ≡ true → i < n
member-place n x i h e =
    by_bool (ltb i n)
    (λ l. ltb-true i n l)
    (λ l. let big = pow_mono {i = n} {j = i} (ltb-false i n l) in let least = member-least x i e in absurd (omega arith))

-- where the bit of a member of a set of n bits stands
pub record Placed (n set j : ℕ) : Type 0 where
  pub low : 1 ≤ j
  pub high : j ≤ n
  pub least : 2 ^ (j - 1) ≤ set

pub member-placed : (n set j : ℕ) → set < 2 ^ n → member set j ≡ true → Placed n set j
member-placed n set zero h e = clash (member set 0) e (member-none set)
member-placed n set (suc i) h e =
    let w : suc i - 1 ≡ i = omega arith in record {
      low = omega arith;
      high = member-place n set i h e;
      least = rw w (member-least set i e);
    }

-- no member past the set's length in bits
pub member-past : (n set j : ℕ) → set < 2 ^ n → n < j → member set j ≡ false
member-past n set j h f =
    by_bool (member set j)
    (λ e. let high = (member-placed n set j h e).high in absurd (omega arith))
    (λ e. e)

-- a site that is no member has no bit there, so that its bit is added where it is set
no-bit : (set i : ℕ) → member set (suc i) ≡ false → bit_and set (2 ^ i) ≡ 0
unfolding member
no-bit set i e =
    let one = eqb-false (set / 2 ^ i % 2) 1 e in
    let most = and_le_r set (2 ^ i) in
    let up = pow-lt {i = i} {j = suc i} (omega arith) in
    no_bits (bit_and set (2 ^ i)) (suc i) (omega arith)
    (λ k l.
    by_bool (eqb k i)
    (λ t. rw (eqb-true k i t, bit_at_and set (2 ^ i) i) (omega arith))
    (λ t. let z = bit_at-pow_other i k (eqb-false k i t) in rw (bit_at_and set (2 ^ i) k) (omega arith)))

pub or-new : (set j : ℕ) → 1 ≤ j → member set j ≡ false → bit_or set (2 ^ (j - 1)) ≡ set + 2 ^ (j - 1)
or-new set zero l e = absurd (omega arith)
or-new set (suc i) l e = let w : suc i - 1 ≡ i = omega arith in rw w (or_disjoint set (2 ^ i) (no-bit set i e))

-- The members among the sites 1 to n.

bit-within : (x e i : ℕ) → x % 2 ^ (e + 1 + i) / 2 ^ i % 2 ≡ x / 2 ^ i % 2
bit-within x e i = rw (field x (e + 1) i) (mod-mod-pow (x / 2 ^ i) e 1)

pub member-within : (n set j : ℕ) → 1 ≤ j → j ≤ n → member (within n set) j ≡ member set j
unfolding member within
member-within n set zero f h = absurd (omega arith)
member-within n set (suc i) f h =
    let w : n - suc i + 1 + i ≡ n = omega arith in
    subst (λ (k : ℕ). eqb (set % 2 ^ k / 2 ^ i % 2) 1 ≡ eqb (set / 2 ^ i % 2) 1) w (ap (λ b. eqb b 1) (bit-within set (n - suc i) i))

pub within-short : (n set : ℕ) → within n set < 2 ^ n
unfolding within
within-short n set = mod-lt set (pow_pos n)

pub within_all : (set : ℕ) → set < 2 ^ word_bits → within word_bits set ≡ set
unfolding within
within_all set h = mod-eq_of_lt h

-- The lowest member, and the set without it.

pub record LowestAt (set t : ℕ) : Type 0 where
  pub lowest : lowest_member set ≡ suc t
  pub has : member set (suc t) ≡ true
  pub below : (j : ℕ) → 1 ≤ j → j ≤ t → member set j ≡ false
  pub gone : (j : ℕ) → 1 ≤ j → j ≤ suc t → member (without_member set (suc t)) j ≡ false
  pub kept : (j : ℕ) → suc t < j → member (without_member set (suc t)) j ≡ member set j

-- "without that bit it is x − 2 ^ t"
odd-without : (m t : ℕ) → without_member ((m * 2 + 1) * 2 ^ t) (suc t) ≡ m * 2 * 2 ^ t
unfolding without_member
odd-without m t =
    let e : suc t - 1 ≡ t = omega arith in
    let s : (m * 2 + 1) * 2 ^ t ≡ m * 2 * 2 ^ t + 2 ^ t = rw (add-mul, one-mul) in
    rw (e, s) (omega arith)

odd-lowest : (m t : ℕ) → t < word_bits → LowestAt ((m * 2 + 1) * 2 ^ t) t
unfolding lowest_member
odd-lowest m t h =
    let twice : m * 2 * 2 ^ t ≡ m * 2 ^ suc t = mul_assoc m 2 (2 ^ t) ∙ rw pow-succ' in record {
      lowest = lowest-found _ t word_bits (lowest-none _ t (members-low (m * 2 + 1) t)) (member-here m t) h;
      has = member-here m t;
      below = members-low (m * 2 + 1) t;
      gone = λ j f g. rw (odd-without m t, twice) (members-low m (suc t) j f g);
      kept = λ j g. rw odd-without (sym (members-above m t j g));
    }

pub lowest-at : (set : ℕ) → 0 < set → set < 2 ^ word_bits → LowestAt set (count_trailing_zeros word_bits set)
lowest-at set p h =
    let t = count_trailing_zeros word_bits set in
    let o = lowest-bit word_bits set p h in
    let has : member set (suc t) ≡ true = ap (λ x. member x (suc t)) o.1 ∙ member-here o.0 t in
    subst (λ (x : ℕ). LowestAt x t) (sym o.1) (odd-lowest o.0 t (member-place word_bits set t h has))
