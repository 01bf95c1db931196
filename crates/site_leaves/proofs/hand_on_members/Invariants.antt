use mathlib.Core.Path.{◌≡◌}
use lib.ListN.{length}
use Rattle.model.specs.Leave.{hand_ons}
use Rattle.list_rows.specs.Rows.{Appends}
use Rattle.rig_members.proofs.Walk.{passed_to, Walk}
use Rattle.site_leaves.proofs.hand_on_members.Given as goal

abbrev pub invariant-loop-j : goal.invariant-loop-j
invariant-loop-j l =
    (goal.iterator-loop-j).can_next l.j-iterator
    × (goal.iterator-loop-j).is_finite l.j-iterator
    × Walk l.d.size l.d.members l.j-iterator.left
    × Appends (hand_ons l.d (passed_to l.d.size l.j-iterator.left)) l.count l.initial.out l.out l.n
    × (length l.out ≡ length l.initial.out)
