use mathlib.Core.Path.{refl}
use Rattle.family_rules.proofs.Accepted.{equally-large, accepted}
use Rattle.family_rules.proofs.families_accepted.Goals as goal

pub returns : goal.returns
returns c = (refl, equally-large, accepted)
