use mathlib.Core.Path.{refl}
use Rattle.family_levels.proofs.Meeting.{sites-placed, places-numbered}
use Rattle.family_levels.proofs.levels_numbered.Goals as goal

pub returns : goal.returns
returns c = (refl, sites-placed, λ a b c x y z row bay level h k l. places-numbered a b c x y z row bay h k level l)
