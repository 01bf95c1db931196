-- `family_rules::entry` meets its contract: one arm for each family.
use native.Mathlib.Nat.{mul-le-mul}
use native.Mathlib.Omega.{arith}
use Rattle.family_rules.specs.Family.{computed, size_of, width_of, entry}
use Rattle.family_rules.proofs.Parameters.{side-bounds, p-bounds, sides}
use Rattle.family_levels.proofs.Sides.{level-fits, width-most}
use Rattle.family_rules.proofs.entry.Goals as goal

pub grid_entry-requires : goal.grid_entry-requires
unfolding size_of width_of
grid_entry-requires c =
    let p = rw c.in-Grid.is at c.requires in
    let l = side-bounds _ p.0 in
    let m = mul-le-mul l.1 l.1 in
    (omega arith, omega arith, omega arith, omega arith, omega arith, omega arith)

pub billiard_entry-requires : goal.billiard_entry-requires
unfolding computed size_of width_of
billiard_entry-requires c = rw c.in-Billiard.is at c.requires

pub plane_entry-requires : goal.plane_entry-requires
unfolding size_of width_of
plane_entry-requires c =
    let p = rw c.in-Plane.is at c.requires in
    let l = p-bounds _ p.0 in
    (omega arith, omega arith, p.1, p.2, p.3, p.4)

pub returns-in-Grid : goal.returns-in-Grid
unfolding entry
returns-in-Grid c = rw c.in-Grid.is c.grid_entry.ensures

pub returns-in-Billiard : goal.returns-in-Billiard
unfolding entry
returns-in-Billiard c = rw c.in-Billiard.is c.billiard_entry.ensures

pub returns-in-Plane : goal.returns-in-Plane
unfolding entry
returns-in-Plane c = rw c.in-Plane.is c.plane_entry.ensures

pub levels_entry-requires : goal.levels_entry-requires
unfolding size_of width_of
levels_entry-requires c =
    let p = rw c.in-Levels.is at c.requires in
    let s = sides _ _ _ p.0 in
    let w = width-most _ _ _ s in
    let m = s.most in
    (level-fits _ _ _ s, (p.1, omega arith), p.3, omega arith)

pub returns-in-Levels : goal.returns-in-Levels
unfolding entry
returns-in-Levels c = rw c.in-Levels.is c.levels_entry.ensures
