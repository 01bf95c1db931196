-- A bound of the numbers that the code computes.
use Prim.Native.Nat.{◌+◌, ◌≤◌}
use mathlib.Core.Path.{◌≡◌}
use mathlib.Core.Bool.{true}
use native.Mathlib.Nat.{mul-le-mul}
use native.Mathlib.Omega.{arith}
use Rattle.family_rules.specs.declared.Family.{Family}
use Rattle.family_rules.specs.declared.Family.TheVariants.{Grid, Billiard, Plane, Levels}
use Rattle.family_rules.specs.Family.{computed, size_of}
use Rattle.family_rules.proofs.Parameters.{side-bounds, p-bounds, sides}
use Rattle.family_billiard.specs.Billiard.{billiard_size}
use Rattle.family_billiard.proofs.Locations.{size-most}

-- every family that the code has sets for
pub sites-most : (f : Family) → computed f ≡ true → size_of f ≤ billiard_size 9
unfolding size_of computed
sites-most (Grid s) h = let l = side-bounds s h in let m = mul-le-mul l.1 l.1 in omega arith
sites-most (Billiard q) h = size-most q h
sites-most (Plane p) h = let l = p-bounds p h in let k : p + 1 ≤ 6 = omega arith in let m = mul-le-mul l.1 k in omega arith
sites-most (Levels a b c) h = omega (arith, (sides a b c h).most)
