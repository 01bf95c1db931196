use Prim.Native.Nat.{◌≤◌, ◌-◌}
use mathlib.Core.Path.{◌≡◌}
use Rattle.family_billiard.specs.Billiard.{path_site}
use Rattle.family_billiard.proofs.path_site.Given as goal

abbrev pub invariant-loop-k : goal.invariant-loop-k
invariant-loop-k l = (l.k ≤ l.steps) × (l.x ≡ path_site l.q l.i l.j l.k)

abbrev pub decreases-loop-k : goal.decreases-loop-k
decreases-loop-k l = l.steps - l.k
