use Prim.Native.Nat.{◌-◌}
use lib.ListN.{length}
use Rattle.player_events.proofs.Going.{Going}
use Rattle.player_events.proofs.play_events.Given as goal

abbrev pub invariant-loop-out : goal.invariant-loop-out
invariant-loop-out l = Going l.p l.initial.tables l.initial.list l.text l.from l.initial.out l.at l.tables l.list l.out l.rig l.count l.step l.line l.now_inside l.now_waiting l.read l.to

abbrev pub decreases-loop-out : goal.decreases-loop-out
decreases-loop-out l = length l.text - l.read
