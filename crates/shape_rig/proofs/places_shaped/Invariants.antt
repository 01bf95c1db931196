use Prim.Native.Nat.{◌≤◌, ◌-◌}
use mathlib.Core.Path.{◌≡◌}
use mathlib.Core.Bool.{true}
use Rattle.rig.specs.Limits.{site_limit}
use Rattle.basics.specs.Helpers.{all}
use Rattle.model.specs.Shape.{place_shaped}
use Rattle.shape_rig.proofs.places_shaped.Given as goal

abbrev pub invariant-loop-i : goal.invariant-loop-i
invariant-loop-i l = (l.i ≤ site_limit) × (all (place_shaped l.rig) l.i ≡ true)

abbrev pub decreases-loop-i : goal.decreases-loop-i
decreases-loop-i l = site_limit - l.i
