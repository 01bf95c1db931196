-- `walk_visits`: the claim, proved in `Visits`.
use mathlib.Core.Path.{refl}
use Rattle.rig_members.proofs.Visits.{walk-visits}
use Rattle.rig_members.proofs.walk_visits.Goals as goal

pub returns : goal.returns
returns c = (refl, walk-visits)
