-- `places_shaped`: each place so far.
use Prim.Native.Nat.{suc}
use mathlib.Core.Path.{sym}
use native.Mathlib.Omega.{arith}
use native.Mathlib.Nat.{le_antisymm}
use native.Mathlib.Numerals.{add-one}
use borrow.Author.Rules.{rules}
use Rattle.rig.specs.Limits.{site_limit}
use Rattle.basics.specs.Helpers.{all}
use Rattle.basics.proofs.Basics.{all-fails, all_more}
use Rattle.basics.proofs.Tests.{failed, passed}
use Rattle.model.specs.Tables.{at}
use Rattle.model.specs.Shape.{place_shaped}
use Rattle.shape_rig.proofs.places_shaped.Goals as goal

pub loop-i-init : goal.loop-i-init
unfolding all
loop-i-init c = search rules

pub returns-then-not-place_shaped : goal.returns-then-not-place_shaped
unfolding place_shaped at
returns-then-not-place_shaped c =
    sym (all-fails _ site_limit (suc c.loop-i.i) (omega arith) (omega arith) (failed (rw add-one at c.place_shaped.ensures) c.if-not-place_shaped.true-raw))

pub loop-i-preserved : goal.loop-i-preserved
unfolding place_shaped at
loop-i-preserved c =
    let l = c.loop-i in
    (omega arith, all_more _ l.i l.invariant.1 (passed (rw add-one at c.place_shaped.ensures) c.if-not-place_shaped.false-raw))

pub returns : goal.returns
returns c = let l = c.loop-i in sym (rw (le_antisymm l.invariant.0 c.loop-i-test.false) at l.invariant.1)
