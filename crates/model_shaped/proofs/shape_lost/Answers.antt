use mathlib.Core.Path.{refl}
use Rattle.model_shaped.proofs.Lost.{shape-lost}
use Rattle.model_shaped.proofs.shape_lost.Goals as goal

pub returns : goal.returns
returns c = (refl, shape-lost)
