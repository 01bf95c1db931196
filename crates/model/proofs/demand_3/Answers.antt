use mathlib.Core.Path.{refl}
use Rattle.model.proofs.Theorem.{demand3}
use Rattle.model.proofs.demand_3.Goals as goal

pub returns : goal.returns
returns c = (refl, demand3)
