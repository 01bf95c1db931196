-- The parameters that the code has sets for.
use Prim.Native.Nat.{ℕ, ◌≤◌}
use mathlib.Core.Path.{◌≡◌}
use mathlib.Core.Bool.{true}
use Rattle.family_billiard.specs.Billiard.{q_computed}
use Rattle.family_grid.proofs.Parameters as grid
use Rattle.family_levels.proofs.Sides as levels
use Rattle.family_plane.proofs.Parameters as plane
use Rattle.family_rules.specs.declared.Family.{Family}
use Rattle.family_rules.specs.declared.Family.TheVariants.{Grid, Billiard, Plane, Levels}
use Rattle.family_rules.specs.Family.{listed, computed}

pub side-bounds : (s : ℕ) → computed (Grid s) ≡ true → (1 ≤ s) × (s ≤ 5)
unfolding computed
side-bounds s h = grid.side-bounds s h

pub p-bounds : (p : ℕ) → computed (Plane p) ≡ true → (2 ≤ p) × (p ≤ 5)
unfolding computed
p-bounds p h = plane.p-bounds p h

pub sides : (a b c : ℕ) → computed (Levels a b c) ≡ true → levels.Sides a b c
unfolding computed
sides a b c h = levels.sides a b c h

pub listed-computed : (f : Family) → listed f ≡ true → computed f ≡ true
unfolding computed listed q_computed
listed-computed (Grid s) h = h
listed-computed (Billiard q) h = rw h
listed-computed (Plane p) h = h
listed-computed (Levels a b c) h = h
