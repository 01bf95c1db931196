use mathlib.Core.Path.{◌≡◌}
use lib.ListN.{length}
use Rattle.model.specs.Site.{failed_set, yielded_up_to}
use Rattle.event_effects.specs.Effects.{CarriesOut}
use Rattle.rig_members.proofs.Walk.{passed_to, Walk}
use Rattle.site_due_yields.specs.Entries.{entries, failed_with}
use Rattle.site_yields.proofs.yield_members.Given as goal

abbrev pub invariant-loop-j : goal.invariant-loop-j
invariant-loop-j l =
    (goal.iterator-loop-j).can_next l.j-iterator
    × (goal.iterator-loop-j).is_finite l.j-iterator
    × Walk l.d.size l.d.members l.j-iterator.left
    × CarriesOut (yielded_up_to (failed_set l.d) (passed_to l.d.size l.j-iterator.left)) l.count l.initial.out l.out (record { desk = failed_with l.d (entries l.held l.heir l.inquired); count = l.n })
    × (length l.out ≡ length l.initial.out)
