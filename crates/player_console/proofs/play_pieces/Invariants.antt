-- `play_pieces`: the player's state fits at every turn, and what prints a part may be called again.
use Rattle.std.proofs.Common.{◌-◌, ◌≤◌}
use Rattle.player_state.specs.State.{PlayingFits}
use Rattle.player_console.proofs.play_pieces.Given as goal

abbrev pub invariant-loop-from : goal.invariant-loop-from
invariant-loop-from g l = goal.P-IsAlwaysCallable g l.put_part × PlayingFits l.r.playing × (l.from ≤ l.got) × (l.got ≤ 8_192)

abbrev pub decreases-loop-from : goal.decreases-loop-from
decreases-loop-from g l = l.got - l.from

abbrev pub invariant-loop : goal.invariant-loop
invariant-loop g l = goal.P-IsAlwaysCallable g l.put_part × PlayingFits l.r.playing
