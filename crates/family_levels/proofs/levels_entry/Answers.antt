-- `family_levels::levels_entry` meets its contract.
use native.Mathlib.Omega.{arith}
use borrow.Author.Tests.{le-leb, lt-leb}
use Rattle.family_levels.specs.Levels.{levels_entry}
use Rattle.family_levels.proofs.Bounds.{level-range, row-range, bay-range}
use Rattle.family_levels.proofs.levels_entry.Goals as goal

pub levels_site-requires : goal.levels_site-requires
levels_site-requires c =
    let p = c.requires in
    let a = c.args in
    let t = c.if-k-a.true in
    let r = row-range a.a a.b a.k p.2 in
    let e = c.row_of.ensures in
    let s = bay-range a.a a.b a.k p.2 in
    let f = c.bay_of.ensures in
    let q = level-range a.a a.b a.n p.1.0 in
    let g = c.level_of.ensures in
    (p.0, (omega arith, omega arith), (omega arith, omega arith), (omega arith, omega arith))

pub returns-then-k-a : goal.returns-then-k-a
unfolding levels_entry
returns-then-k-a c =
    let e = c.row_of.ensures in
    rw (le-leb _ _ c.if-k-a.true, ← e, ← c.bay_of.ensures, ← c.level_of.ensures)
    c.levels_site.ensures

pub levels_site-requires-2 : goal.levels_site-requires-2
levels_site-requires-2 c =
    let p = c.requires in
    let a = c.args in
    let t = c.if-k-a.false in
    let r = row-range a.a a.b a.n p.1.0 in
    let e = c.row_of-2.ensures in
    let s = bay-range a.a a.b a.n p.1.0 in
    let f = c.bay_of-2.ensures in
    (p.0, (omega arith, omega arith), (omega arith, omega arith), (omega arith, omega arith))

pub returns : goal.returns
unfolding levels_entry
returns c =
    rw (lt-leb _ _ c.if-k-a.false, ← c.row_of-2.ensures, ← c.bay_of-2.ensures)
    c.levels_site-2.ensures
