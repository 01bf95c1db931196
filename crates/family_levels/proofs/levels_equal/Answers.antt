use mathlib.Core.Path.{refl}
use Rattle.family_levels.proofs.Equal.{levels-equal}
use Rattle.family_levels.proofs.levels_equal.Goals as goal

pub returns : goal.returns
returns c = (refl, levels-equal)
