-- Membership as the code reads it.
use Prim.Native.Nat.{ℕ, zero, suc, ◌-◌, ◌/◌, ◌%◌, ◌^◌, ◌<◌}
use mathlib.Core.Path.{◌≡◌, refl, ap}
use mathlib.Core.Bool.{◌&&◌}
use native.Mathlib.Omega.{arith}
use borrow.Author.Tests.{le-leb, leb-false}
use lib.Dec.{eqb, leb}
use Rattle.basics.proofs.Basics.{by_bool}
use Rattle.model.specs.Sets.{member}
use Rattle.rig_members.proofs.Members.{member-past}

-- the bit that the code reads
member-bit : (s i j : ℕ) → i ≡ j - 1 → member s (suc i) ≡ eqb (s / 2 ^ (j - 1) % 2) 1
unfolding member
member-bit s i j e = ap (λ (m : ℕ). eqb (s / 2 ^ m % 2) 1) e

pub member_bits : (s j : ℕ) → s < 2 ^ 64 → member s j ≡ leb 1 j && leb j 64 && eqb (s / 2 ^ (j - 1) % 2) 1
unfolding member
member_bits s zero h = refl
member_bits s (suc i) h =
    by_bool (leb (suc i) 64)
    (λ e. rw (le-leb 1 (suc i) (omega arith), e) (member-bit s i (suc i) (omega arith)))
    (λ e. rw (le-leb 1 (suc i) (omega arith), e) (member-past 64 s (suc i) h (omega (arith, leb-false _ _ e))))
