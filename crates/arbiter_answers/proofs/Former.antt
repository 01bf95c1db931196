-- How many messages go to a former head.
use Prim.Native.Nat.{ℕ, ◌≤◌}
use native.Mathlib.Omega.{arith}
use lib.ListN.{length}
use Rattle.rig.specs.declared.Desk.{Desk}
use Rattle.model.specs.Arbiter.{former_told, fail_former}
use Rattle.basics.proofs.Basics.{by_bool}

-- at most one
pub fail-former-most : (d : Desk) (k former : ℕ) → length (fail_former d k former) ≤ 1
unfolding fail_former
fail-former-most d k former = by_bool (former_told d k former) (λ e. rw e (omega arith)) (λ e. rw e (omega arith))
