-- `billiard::billiard_entry` meets its contract: each site has a location from which the path fits.
use Prim.Native.Nat.{◌*◌, ◌-◌}
use native.Mathlib.Nat.{div-le_self}
use native.Mathlib.Omega.{arith}
use Rattle.family_billiard.specs.Billiard.{billiard_entry}
use Rattle.family_billiard.proofs.Parameters.{q-bounds}
use Rattle.family_billiard.proofs.Locations.{size-most, column-within, location}
use Rattle.family_billiard.proofs.billiard_entry.Goals as goal

pub column_of-j-requires : goal.column_of-j-requires
column_of-j-requires c =
    let p = c.requires in
    let s = size-most _ p.0 in
    let l = q-bounds _ p.0 in
    (omega arith, omega arith)

pub overflow_mul-i : goal.overflow_mul-i
overflow_mul-i c = omega (arith, size-most _ c.requires.0)

pub overflow_sub-i : goal.overflow_sub-i
overflow_sub-i c = let p = c.requires in rw c.column_of-j.ensures (column-within _ _ p.0 p.1 p.2)

pub nonzero_div-i : goal.nonzero_div-i
nonzero_div-i c = omega (arith, q-bounds _ c.requires.0)

pub overflow_add-i : goal.overflow_add-i
overflow_add-i c =
    let s = c.args in
    omega (arith, size-most _ c.requires.0, div-le_self (2 * s.n - c.column_of-j.result) s.q)

pub path_site-requires : goal.path_site-requires
path_site-requires c = let p = c.requires in (rw c.column_of-j.ensures (location _ _ p.0 p.1 p.2), omega arith)

pub returns : goal.returns
unfolding billiard_entry
returns c = rw c.column_of-j.ensures at c.path_site.ensures
