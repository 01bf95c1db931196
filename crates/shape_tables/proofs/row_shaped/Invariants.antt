use Prim.Native.Nat.{◌≤◌, ◌-◌}
use mathlib.Core.Path.{◌≡◌}
use mathlib.Core.Bool.{true}
use Rattle.rig.specs.Limits.{site_limit}
use Rattle.basics.specs.Helpers.{all}
use Rattle.model.specs.Tables.{at}
use Rattle.shape_cells.specs.Cells.{cell_shaped}
use Rattle.shape_tables.proofs.row_shaped.Given as goal

abbrev pub invariant-loop-i : goal.invariant-loop-i
invariant-loop-i l = (l.i ≤ site_limit) × (all (λ b. cell_shaped l.which l.sets l.a b (at 0 l.row b)) l.i ≡ true)

abbrev pub decreases-loop-i : goal.decreases-loop-i
decreases-loop-i l = site_limit - l.i
