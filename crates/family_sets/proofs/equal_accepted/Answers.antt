use mathlib.Core.Path.{refl}
use Rattle.family_sets.proofs.Meeting.{equal-accepted}
use Rattle.family_sets.proofs.equal_accepted.Goals as goal

pub returns : goal.returns
returns c = (refl, equal-accepted)
