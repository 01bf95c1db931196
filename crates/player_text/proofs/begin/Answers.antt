-- `begin`: a rig without sites.
use Rattle.model.specs.Setup.{no_rig}
use Rattle.player_text.proofs.begin.Goals as goal

pub returns : goal.returns
unfolding no_rig
returns c = rw c.resting.ensures
