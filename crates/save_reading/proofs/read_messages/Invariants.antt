use Prim.Native.Nat.{◌-◌, ◌≤◌}
use mathlib.Core.Path.{◌≡◌}
use lib.ListN.{length, drop}
use Rattle.rig.specs.Limits.{message_limit}
use Rattle.save_lines.specs.Lines.{lines_in}
use Rattle.save_reading.proofs.Messages.{rows_so_far}
use Rattle.save_reading.proofs.read_messages.Given as goal

abbrev pub invariant-loop-next : goal.invariant-loop-next
invariant-loop-next l = let ls = lines_in (drop l.at l.text) in
    (l.next ≤ length l.text) × (l.count ≤ message_limit) × (l.count ≤ length ls) × (lines_in (drop l.next l.text) ≡ drop l.count ls) × (l.list ≡ rows_so_far ls l.count)

abbrev pub decreases-loop-next : goal.decreases-loop-next
decreases-loop-next l = message_limit - l.count
