use mathlib.Core.Path.{refl}
use Rattle.family_levels.proofs.Meeting.{takes-level-and-bay}
use Rattle.family_levels.proofs.levels_taken.Goals as goal

pub returns : goal.returns
returns c = (refl, takes-level-and-bay)
