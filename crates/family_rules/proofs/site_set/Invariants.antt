use Prim.Native.Nat.{◌≤◌, ◌-◌}
use mathlib.Core.Path.{◌≡◌}
use Rattle.model.specs.Sets.{set_of}
use Rattle.family_rules.specs.Family.{has_site}
use Rattle.family_rules.proofs.site_set.Given as goal

abbrev pub invariant-loop-m : goal.invariant-loop-m
invariant-loop-m l = (l.m ≤ l.size) × (l.set ≡ set_of (has_site l.family l.n) l.m)

abbrev pub decreases-loop-m : goal.decreases-loop-m
decreases-loop-m l = l.size - l.m
