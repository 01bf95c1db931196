-- Bounds of the numbers that the code computes.
use Prim.Native.Nat.{ℕ, ◌+◌, ◌-◌, ◌*◌, ◌≤◌}
use native.Mathlib.Omega.{arith}
use lib.Dec.{eqb}
use Rattle.rig.specs.Limits.{site_limit}
use Rattle.basics.proofs.Basics.{by_bool}
use Rattle.basics.proofs.Numbers.{product}
use Rattle.family_plane.specs.Plane.{first_matrix}

pub first-matrix-most : (p i j : ℕ) → p ≤ site_limit → i ≤ site_limit → j ≤ site_limit → first_matrix p i j ≤ site_limit * site_limit + site_limit
unfolding first_matrix
first-matrix-most p i j a b d =
    let l = product (i - 1) p (omega arith) a in
    by_bool (eqb j 1) (λ e. rw e (omega arith)) (λ e. rw e (omega arith))
