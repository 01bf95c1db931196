use mathlib.Core.Path.{◌≡◌}
use mathlib.Core.Bool.{true}
use Rattle.basics.specs.Helpers.{all}
use Rattle.rig_members.proofs.Walk.{passed_to, Walk}
use Rattle.site_held.proofs.Held.{held_if}
use Rattle.site_held.proofs.all_held.Given as goal

abbrev pub invariant-loop-j : goal.invariant-loop-j
invariant-loop-j l =
    (goal.iterator-loop-j).can_next l.j-iterator
    × (goal.iterator-loop-j).is_finite l.j-iterator
    × Walk l.d.size l.d.members l.j-iterator.left
    × (all (held_if l.d) (passed_to l.d.size l.j-iterator.left) ≡ true)
