-- `from_rows`: the first i messages are read.
use mathlib.Core.Path.{◌≡◌}
use Rattle.list_rows.specs.Rows.{message_of}
use Rattle.list_copy.proofs.Copies.{copied}
use Rattle.list_copy.proofs.from_rows.Given as goal

abbrev pub invariant-loop-i : goal.invariant-loop-i
invariant-loop-i l = l.list ≡ copied message_of l.fn.list l.rows l.i
