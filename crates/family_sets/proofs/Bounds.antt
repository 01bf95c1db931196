-- A set of sites as a number.
use Prim.Native.Nat.{ℕ, zero, suc, ◌^◌, ◌<◌}
use mathlib.Core.Bool.{Bool}
use native.Mathlib.Omega.{arith}
use Rattle.model.specs.Sets.{set_of}
use Rattle.basics.proofs.Basics.{by_bool}

-- a set of sites 1 to n is below 2 ^ n
pub set_below : (p : ℕ → Bool) (n : ℕ) → set_of p n < 2 ^ n
unfolding set_of
set_below p zero = omega arith
set_below p (suc i) =
    let l = set_below p i in
    by_bool (p (suc i)) (λ t. rw t (omega arith)) (λ t. rw t (omega arith))
