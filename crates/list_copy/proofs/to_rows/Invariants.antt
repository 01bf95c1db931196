-- `to_rows`: the first i messages are copied.
use mathlib.Core.Path.{◌≡◌}
use Rattle.list_rows.specs.Rows.{row_of}
use Rattle.list_copy.proofs.Copies.{copied}
use Rattle.list_copy.proofs.to_rows.Given as goal

abbrev pub invariant-loop-i : goal.invariant-loop-i
invariant-loop-i l = l.rows ≡ copied row_of l.fn.rows l.fn.list l.i
