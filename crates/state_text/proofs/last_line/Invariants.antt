-- `last_line`: the present line of what was read, and what is left.
use Prim.Native.Nat.{◌-◌, ◌≤◌}
use mathlib.Core.Path.{◌≡◌}
use lib.ListN.{take, drop}
use Rattle.state_text.specs.State.{last_from, last_line}
use Rattle.state_text.proofs.last_line.Given as goal

abbrev pub invariant-loop-i : goal.invariant-loop-i
invariant-loop-i l = (l.start ≤ l.i) × (last_from (take (l.i - l.start) (drop l.start l.bytes)) l.ended (drop l.i l.bytes) ≡ last_line l.bytes)
