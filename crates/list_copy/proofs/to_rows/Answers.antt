-- `to_rows`: each turn copies one message more.
use Prim.Native.Nat.{◌<◌}
use native.Mathlib.Numerals.{add-one}
use native.Mathlib.Omega.{arith}
use lib.Seq.{length-take-le, get_or-take}
use Rattle.list_rows.specs.Rows.{row_of}
use Rattle.list_copy.proofs.Copies.{copied_next}
use Rattle.list_copy.proofs.to_rows.Goals as goal

pub loop-i-preserved : goal.loop-i-preserved
loop-i-preserved c =
    let a = c.args in
    let h : c.loop-i.i < a.n = omega (arith, length-take-le a.n a.list.now c.requires.0) in
    rw (c.loop-i.invariant, c.row.ensures, get_or-take a.n a.list.now c.loop-i.i _ h, add-one) (copied_next row_of a.rows.now a.list.now c.loop-i.i _ (omega arith) (omega arith))
