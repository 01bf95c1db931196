use mathlib.Core.Path.{◌≡◌}
use Rattle.basics.specs.Helpers.{count}
use Rattle.rig.specs.Limits.{site_limit}
use Rattle.model.specs.Sets.{member}
use Rattle.rig_members.proofs.Walk.{passed_to, Walk}
use Rattle.save_entries.proofs.Values.{row_so_far}
use Rattle.save_entries.proofs.row_from.Given as goal

abbrev pub invariant-loop-j : goal.invariant-loop-j
invariant-loop-j l =
    (goal.iterator-loop-j).can_next l.j-iterator
    × (goal.iterator-loop-j).is_finite l.j-iterator
    × Walk site_limit l.set l.j-iterator.left
    × (l.row ≡ row_so_far (member l.set) l.ns (passed_to site_limit l.j-iterator.left))
    × (l.next ≡ count (member l.set) (passed_to site_limit l.j-iterator.left))
