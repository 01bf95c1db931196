-- `with_new_site`: a bit of one of the sites, as the code shifts it.
use Prim.Native.Nat.{◌-◌, ◌^◌, ◌<◌}
use native.Mathlib.Nat.{one-mul}
use native.Mathlib.Omega.{arith}
use lib.Pow.{shl_exact, pow-lt}
use Rattle.rig.specs.Limits.{site_limit}
use Rattle.family_votes.proofs.with_new_site.Goals as goal
use Rattle.family_votes.proofs.with_new_site.Goals.{Start}

bit-most : (c : Start) → 2 ^ (c.args.m - 1) < 2 ^ site_limit
bit-most c = pow-lt {j = site_limit} (omega (arith, c.requires.0))

pub overflow_add-result : goal.overflow_add-result
overflow_add-result c = rw (shl_exact {a = 1} 1 (c.args.m - 1) 64 (omega arith) (omega arith), one-mul) (omega (arith, bit-most (goal.at.overflow_add-result c).Start))

pub returns : goal.returns
returns c = rw (shl_exact {a = 1} 1 (c.args.m - 1) 64 (omega arith) (omega arith), one-mul)
