use mathlib.Core.Path.{refl}
use Rattle.model.proofs.Fullest.{measure-reached}
use Rattle.model.proofs.Settling as claims
use Rattle.model.proofs.settles.Goals as goal

pub returns : goal.returns
returns c = (refl, claims.settles, claims.deliveries-end, claims.deliveries-few, claims.measure-bounded, measure-reached, claims.deliverable, claims.settled-serves)
