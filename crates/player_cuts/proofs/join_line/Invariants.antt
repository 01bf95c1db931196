use Prim.Native.Nat.{◌≤◌, ◌-◌}
use mathlib.Core.Path.{◌≡◌}
use lib.ListN.{length, take, drop}
use Rattle.player_grammar.specs.Grammar.{line_limit}
use Rattle.player_cuts.specs.Joins.{joined}
use Rattle.player_cuts.proofs.join_line.Given as goal

abbrev pub invariant-loop-i : goal.invariant-loop-i
invariant-loop-i l = (l.i ≤ length l.text) × (l.i-end ≡ length l.text) × (length l.all ≡ 97) × (l.n ≤ line_limit)
    × (joined l.from (take l.held l.initial.all) (drop l.from l.text) ≡ joined l.i (take l.n l.all) (drop l.i l.text))

abbrev pub decreases-loop-i : goal.decreases-loop-i
decreases-loop-i l = l.i-end - l.i
