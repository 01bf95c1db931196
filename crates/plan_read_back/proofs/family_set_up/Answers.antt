use mathlib.Core.Path.{refl}
use Rattle.plan_read_back.proofs.Families.{family-set-up, votes-played}
use Rattle.plan_read_back.proofs.family_set_up.Goals as goal

pub returns : goal.returns
returns c = (refl, family-set-up, votes-played)
