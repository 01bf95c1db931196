use mathlib.Core.Path.{refl}
use Rattle.model.proofs.Fails.{fails-name, old-fails-idle}
use Rattle.model.proofs.fails_name_asks.Goals as goal

pub returns : goal.returns
returns c = (refl, fails-name, old-fails-idle)
