use mathlib.Core.Path.{refl}
use Rattle.family_levels.proofs.Meeting.{levels-meet}
use Rattle.family_levels.proofs.levels_meet.Goals as goal

pub returns : goal.returns
returns c = (refl, levels-meet)
