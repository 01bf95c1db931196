-- `family_rules::width_of` meets its contract: one arm for each family.
use native.Mathlib.Omega.{arith}
use Rattle.family_rules.specs.Family.{width_of}
use Rattle.family_rules.proofs.Parameters.{side-bounds, p-bounds, sides}
use Rattle.family_levels.proofs.Sides.{level-fits, width-most}
use Rattle.family_rules.proofs.width_of.Goals as goal

pub overflow_add-result : goal.overflow_add-result
overflow_add-result c = omega (arith, side-bounds _ (rw c.in-Grid.is at c.requires))

pub overflow_add-result-in-Plane : goal.overflow_add-result-in-Plane
overflow_add-result-in-Plane c = omega (arith, p-bounds _ (rw c.in-Plane.is at c.requires))

pub returns-in-Grid : goal.returns-in-Grid
unfolding width_of
returns-in-Grid c = rw c.in-Grid.is

pub returns-in-Billiard : goal.returns-in-Billiard
unfolding width_of
returns-in-Billiard c = rw c.in-Billiard.is

pub returns-in-Plane : goal.returns-in-Plane
unfolding width_of
returns-in-Plane c = rw c.in-Plane.is

pub overflow_mul-result : goal.overflow_mul-result
overflow_mul-result c = omega (arith, level-fits _ _ _ (sides _ _ _ (rw c.in-Levels.is at c.requires)))

pub overflow_add-result-in-Levels : goal.overflow_add-result-in-Levels
overflow_add-result-in-Levels c = omega (arith, width-most _ _ _ (sides _ _ _ (rw c.in-Levels.is at c.requires)))

pub returns-in-Levels : goal.returns-in-Levels
unfolding width_of
returns-in-Levels c = rw c.in-Levels.is
