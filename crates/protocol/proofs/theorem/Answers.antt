use Rattle.std.proofs.Common.{refl}
use Rattle.protocol.proofs.Demand3.{claim-proved}
use Rattle.protocol.proofs.theorem.Goals as goal

pub returns : goal.returns
returns c = (refl, claim-proved)
