-- `from_rows`: each turn reads one row more.
use mathlib.Core.Path.{◌∙◌}
use native.Mathlib.Numerals.{add-one}
use native.Mathlib.Omega.{arith}
use Rattle.list_rows.specs.Rows.{message_of}
use Rattle.list_copy.proofs.Copies.{copied_next}
use Rattle.list_copy.proofs.from_rows.Goals as goal

pub loop-i-preserved : goal.loop-i-preserved
loop-i-preserved c =
    c.append.ensures.1 ∙ rw (c.loop-i.invariant, c.message.ensures, add-one) (copied_next message_of c.args.list.now c.args.rows.now c.loop-i.i _ (omega arith) (omega arith))
