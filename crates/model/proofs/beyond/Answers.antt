use mathlib.Core.Path.{refl}
use Rattle.model.proofs.Always.{always-shaped, always-long, numbers-small, nine-by-events, no_stray}
use Rattle.model.proofs.beyond.Goals as goal

pub returns : goal.returns
returns c = (refl, always-shaped, always-long, numbers-small, nine-by-events, no_stray)
