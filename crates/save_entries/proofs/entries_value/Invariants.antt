use Rattle.rig.specs.Limits.{site_limit}
use Rattle.model.specs.Sets.{member}
use Rattle.rig_members.proofs.Walk.{passed_to, Walk}
use Rattle.save_entries.specs.Entries.{entries_up_to}
use Rattle.save_entries.proofs.Values.{IsLine}
use Rattle.save_entries.proofs.entries_value.Given as goal

abbrev pub invariant-loop-j : goal.invariant-loop-j
invariant-loop-j l =
    (goal.iterator-loop-j).can_next l.j-iterator
    × (goal.iterator-loop-j).is_finite l.j-iterator
    × Walk site_limit l.set l.j-iterator.left
    × IsLine (entries_up_to (member l.set) l.row (passed_to site_limit l.j-iterator.left)) l.numbers l.count
