use Prim.Native.Nat.{◌+◌, ◌*◌}
use mathlib.Core.Path.{◌≡◌}
use Rattle.model.specs.Setup.{free_arbiter}
use Rattle.save_lines.specs.Lines.{lines_in}
use Rattle.save_text.specs.Reading.{arbiter_at}
use Rattle.save_reading.proofs.Arrays.{part_of}
use Rattle.save_reading.specs.Places.{line_start}
use Rattle.save_reading.specs.Lines.{all_tables}
use Rattle.save_reading.proofs.read_arbiters.Given as goal

abbrev pub invariant-loop-i : goal.invariant-loop-i
invariant-loop-i l =
    (l.next ≡ line_start l.text (6 * l.n + 2 + 3 * l.i))
    × (l.arbiter-items ≡ part_of free_arbiter (arbiter_at (lines_in l.text) l.n l.sets) l.n l.i)
    × (l.tables ≡ all_tables l.text l.n l.sets l.i)
