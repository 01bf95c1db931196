-- `family_rules::size_of` meets its contract: one arm for each family, each product small.
use Prim.Native.Nat.{◌+◌}
use native.Mathlib.Omega.{arith}
use Rattle.family_rules.specs.Family.{computed, size_of}
use Rattle.basics.proofs.Numbers.{product, square-least}
use Rattle.family_rules.proofs.Parameters.{side-bounds, p-bounds, sides}
use Rattle.family_levels.proofs.Sides.{level-fits}
use Rattle.family_billiard.proofs.Parameters.{q-bounds}
use Rattle.family_rules.proofs.size_of.Goals as goal

pub overflow_mul-result : goal.overflow_mul-result
overflow_mul-result c =
    let l = side-bounds _ (rw c.in-Grid.is at c.requires) in
    omega (arith, product c.in-Grid.s c.in-Grid.s (omega arith) (omega arith))

pub overflow_mul-result-in-Billiard : goal.overflow_mul-result-in-Billiard
unfolding computed
overflow_mul-result-in-Billiard c =
    let l = q-bounds _ (rw c.in-Billiard.is at c.requires) in
    omega (arith, product c.in-Billiard.q c.in-Billiard.q (omega arith) (omega arith))

pub overflow_sub-result : goal.overflow_sub-result
unfolding computed
overflow_sub-result c =
    let l = q-bounds _ (rw c.in-Billiard.is at c.requires) in
    omega (arith, square-least c.in-Billiard.q (omega arith))

pub overflow_add-result : goal.overflow_add-result
overflow_add-result c = omega (arith, p-bounds _ (rw c.in-Plane.is at c.requires))

pub overflow_mul-result-in-Plane : goal.overflow_mul-result-in-Plane
overflow_mul-result-in-Plane c =
    let l = p-bounds _ (rw c.in-Plane.is at c.requires) in
    omega (arith, product c.in-Plane.p (c.in-Plane.p + 1) (omega arith) (omega arith))

pub overflow_add-result-in-Plane : goal.overflow_add-result-in-Plane
overflow_add-result-in-Plane c =
    let l = p-bounds _ (rw c.in-Plane.is at c.requires) in
    omega (arith, product c.in-Plane.p (c.in-Plane.p + 1) (omega arith) (omega arith))

pub returns-in-Grid : goal.returns-in-Grid
unfolding size_of
returns-in-Grid c = rw c.in-Grid.is

pub returns-in-Billiard : goal.returns-in-Billiard
unfolding size_of
returns-in-Billiard c = rw c.in-Billiard.is

pub returns-in-Plane : goal.returns-in-Plane
unfolding size_of
returns-in-Plane c = rw c.in-Plane.is

pub overflow_mul-result-in-Levels : goal.overflow_mul-result-in-Levels
overflow_mul-result-in-Levels c = omega (arith, level-fits _ _ _ (sides _ _ _ (rw c.in-Levels.is at c.requires)))

pub overflow_mul-result-in-Levels-2 : goal.overflow_mul-result-in-Levels-2
overflow_mul-result-in-Levels-2 c = omega (arith, (sides _ _ _ (rw c.in-Levels.is at c.requires)).most)

pub returns-in-Levels : goal.returns-in-Levels
unfolding size_of
returns-in-Levels c = rw c.in-Levels.is
