use mathlib.Core.Path.{◌≡◌}
use Rattle.model.specs.Sets.{set_of}
use Rattle.model.specs.State.{has_member}
use Rattle.save_entries.proofs.askers.Given as goal

abbrev pub invariant-loop-i : goal.invariant-loop-i
invariant-loop-i l = l.set ≡ set_of (λ k. has_member l.sets k l.j) l.i
