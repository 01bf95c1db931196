use Prim.Native.Nat.{◌≤◌, ◌-◌}
use mathlib.Core.Path.{◌≡◌}
use lib.Dec.{eqb}
use Rattle.rig.specs.Limits.{site_limit}
use Rattle.basics.specs.Helpers.{all}
use Rattle.model.specs.Tables.{at}
use Rattle.shape_tables.proofs.is_blank.Given as goal

abbrev pub invariant-loop-b : goal.invariant-loop-b
invariant-loop-b l = (l.b ≤ site_limit) × (eqb l.any 0 ≡ all (λ k. eqb (at 0 l.row k) 0) l.b)

abbrev pub decreases-loop-b : goal.decreases-loop-b
decreases-loop-b l = site_limit - l.b
