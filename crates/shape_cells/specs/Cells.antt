-- Which test of model/specs/Shape an entry has, by the index of its table.
use Rattle.std.specs.Prelude.{ℕ, Bool, cond, List, eqb}
use Rattle.rig.specs.Limits.{HEIR, QUEUED}
use Rattle.model.specs.Shape.{own_shaped, heir_shaped, queued_shaped}

unfoldable pub cell_shaped : ℕ → List ℕ → ℕ → ℕ → ℕ → Bool
cell_shaped which sets = cond (eqb which HEIR) (heir_shaped sets) (cond (eqb which QUEUED) (queued_shaped sets) (own_shaped sets))
