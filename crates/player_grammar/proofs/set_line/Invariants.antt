use Prim.Native.Nat.{◌≤◌, ◌+◌, ◌-◌}
use mathlib.Core.Path.{◌≡◌}
use lib.ListN.{length}
use Rattle.player_grammar.specs.Grammar.{numbers, set_line}
use Rattle.player_grammar.proofs.Lists.{set_from, numbers_at}
use Rattle.player_grammar.proofs.set_line.Given as goal

abbrev pub invariant-loop-at : goal.invariant-loop-at
invariant-loop-at l = (l.at ≤ length l.list + 1) × (set_line (numbers l.list) ≡ set_from l.low l.set (numbers_at l.list l.at))

abbrev pub decreases-loop-at : goal.decreases-loop-at
decreases-loop-at l = length l.list + 1 - l.at
