use mathlib.Core.Path.{◌≡◌}
use lib.ListN.{length}
use Rattle.rig.specs.Limits.{site_limit}
use Rattle.rig_members.specs.Walk.{members_up_to}
use Rattle.rig_members.proofs.Walk.{passed_to, Walk}
use Rattle.player_bytes.specs.Wrote.{Wrote}
use Rattle.plan_lines.specs.Lines.{list_text}
use Rattle.plan_lines.proofs.set_line.Given as goal

abbrev pub invariant-loop-j : goal.invariant-loop-j
invariant-loop-j l =
    (goal.iterator-loop-j).can_next l.j-iterator
    × (goal.iterator-loop-j).is_finite l.j-iterator
    × Walk site_limit l.set l.j-iterator.left
    × (length l.page ≡ length l.initial.page)
    × Wrote (list_text (members_up_to l.set (passed_to site_limit l.j-iterator.left))) l.first l.initial.page l.page l.next
