use mathlib.Core.Path.{refl}
use Rattle.model.proofs.Theorem.{sound-with-losses}
use Rattle.model.proofs.Always.{shaped-with-losses}
use Rattle.model.proofs.demand_3_with_losses.Goals as goal

pub returns : goal.returns
returns c = (refl, sound-with-losses, shaped-with-losses)
