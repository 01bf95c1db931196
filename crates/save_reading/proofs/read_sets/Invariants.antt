use Prim.Native.Nat.{suc}
use mathlib.Core.Path.{◌≡◌}
use Rattle.save_lines.specs.Lines.{lines_in}
use Rattle.save_text.specs.Reading.{set_from}
use Rattle.save_reading.specs.Places.{line_start}
use Rattle.save_reading.proofs.Arrays.{part_of}
use Rattle.save_reading.proofs.read_sets.Given as goal

abbrev pub invariant-loop-set : goal.invariant-loop-set
invariant-loop-set l = (l.next ≡ line_start l.text (suc l.set-index)) × (l.set-items ≡ part_of 0 (set_from (lines_in l.text)) l.n l.set-index)
