use mathlib.Core.Path.{refl}
use Rattle.model_shaped.proofs.Numbered.{fails-numbered}
use Rattle.model_shaped.proofs.fails_numbered.Goals as goal

pub returns : goal.returns
returns c = (refl, fails-numbered)
