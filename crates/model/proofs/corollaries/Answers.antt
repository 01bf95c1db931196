use mathlib.Core.Path.{refl}
use Rattle.model.proofs.FromDemand3.{corollaries}
use Rattle.model.proofs.corollaries.Goals as goal

pub returns : goal.returns
returns c = (refl, corollaries)
