use mathlib.Core.Path.{refl}
use Rattle.player_parts.proofs.Cuts.{cuts-agree}
use Rattle.player_parts.proofs.cuts_agree.Goals as goal

pub returns : goal.returns
returns c = (refl, cuts-agree)
