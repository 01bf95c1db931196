-- `row_shaped`: a blank row passes; of another, each entry so far is shaped.
use Prim.Native.Nat.{suc, ◌-◌}
use mathlib.Core.Path.{sym, ◌∙◌}
use native.Mathlib.Omega.{arith}
use native.Mathlib.Nat.{le_antisymm}
use native.Mathlib.Numerals.{add-one}
use Rattle.rig.specs.Limits.{site_limit}
use Rattle.basics.specs.Helpers.{all}
use Rattle.basics.proofs.Basics.{all-fails, all_more}
use Rattle.basics.proofs.Tests.{failed, passed}
use Rattle.model.specs.Tables.{at}
use Rattle.shape_tables.proofs.Blank.{row-none}
use borrow.Author.Rules.{rules}
use Rattle.shape_tables.proofs.row_shaped.Goals as goal

pub returns-then-is_blank : goal.returns-then-is_blank
returns-then-is_blank c = sym (row-none _ _ _ _ (sym c.is_blank.ensures ∙ c.if-is_blank.true))

pub loop-i-init : goal.loop-i-init
unfolding all
loop-i-init c = search rules

pub returns-then-not-cell_shaped : goal.returns-then-not-cell_shaped
unfolding at
returns-then-not-cell_shaped c =
    let l = c.loop-i in
    sym (all-fails _ site_limit (suc l.i) (omega arith) (omega arith) (failed (rw add-one at c.cell_shaped.ensures) c.if-not-cell_shaped.true-raw))

pub loop-i-preserved : goal.loop-i-preserved
unfolding at
loop-i-preserved c =
    let l = c.loop-i in
    (omega arith, all_more _ l.i l.invariant.1 (passed (rw add-one at c.cell_shaped.ensures) c.if-not-cell_shaped.false-raw))

pub returns : goal.returns
returns c = sym (rw (le_antisymm c.loop-i.invariant.0 c.loop-i-test.false) at c.loop-i.invariant.1)
