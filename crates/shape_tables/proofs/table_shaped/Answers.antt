-- `table_shaped`: each row so far is shaped.
use Prim.Native.Nat.{suc, ◌-◌}
use mathlib.Core.Path.{sym}
use native.Mathlib.Omega.{arith}
use native.Mathlib.Nat.{le_antisymm}
use native.Mathlib.Numerals.{add-one}
use Rattle.rig.specs.Limits.{site_limit}
use Rattle.basics.specs.Helpers.{all}
use Rattle.basics.proofs.Basics.{all-fails, all_more}
use Rattle.basics.proofs.Tests.{failed, passed}
use Rattle.model.specs.Tables.{at, cell}
use Rattle.model.specs.Shape.{everywhere}
use borrow.Author.Rules.{rules}
use Rattle.shape_tables.proofs.table_shaped.Goals as goal

pub loop-i-init : goal.loop-i-init
unfolding all
loop-i-init c = search rules

pub returns-then-not-row_shaped : goal.returns-then-not-row_shaped
unfolding everywhere cell at
returns-then-not-row_shaped c =
    let l = c.loop-i in
    sym (all-fails _ site_limit (suc l.i) (omega arith) (omega arith) (failed (rw add-one at c.row_shaped.ensures) c.if-not-row_shaped.true-raw))

pub loop-i-preserved : goal.loop-i-preserved
unfolding cell at
loop-i-preserved c =
    let l = c.loop-i in
    (omega arith, all_more _ l.i l.invariant.1 (passed (rw add-one at c.row_shaped.ensures) c.if-not-row_shaped.false-raw))

pub returns : goal.returns
unfolding everywhere
returns c = sym (rw (le_antisymm c.loop-i.invariant.0 c.loop-i-test.false) at c.loop-i.invariant.1)
