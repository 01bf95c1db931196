-- `is_blank`: the OR of the entries so far is 0 where each of them is.
use Prim.Native.Nat.{◌-◌}
use mathlib.Core.Path.{sym}
use native.Mathlib.Omega.{arith}
use native.Mathlib.Nat.{le_antisymm}
use native.Mathlib.Numerals.{add-one}
use Rattle.basics.specs.Helpers.{all}
use Rattle.model.specs.Tables.{at}
use Rattle.shape_tables.proofs.Blank.{or-zero}
use borrow.Author.Rules.{rules}
use Rattle.shape_tables.proofs.is_blank.Goals as goal

pub loop-b-init : goal.loop-b-init
unfolding all
loop-b-init c = search rules

pub loop-b-preserved : goal.loop-b-preserved
unfolding all at
loop-b-preserved c = (omega arith, rw (or-zero, add-one, c.loop-b.invariant.1))

pub returns : goal.returns
returns c = rw (sym (le_antisymm c.loop-b.invariant.0 c.loop-b-test.false)) c.loop-b.invariant.1
