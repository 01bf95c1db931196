-- `print_members`: a walk of the members.
use Rattle.rig_members.proofs.Walk.{Walk}
use Rattle.print_families.proofs.print_members.Given as goal

abbrev pub invariant-loop-j : goal.invariant-loop-j
invariant-loop-j g l =
    (goal.iterator-loop-j g).can_next l.j-iterator
    × (goal.iterator-loop-j g).is_finite l.j-iterator
    × Walk 40 l.set l.j-iterator.left
