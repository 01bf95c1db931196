use mathlib.Core.Path.{refl}
use Rattle.player_whole.proofs.Whole.{whole-text, whole-text-from}
use Rattle.player_whole.proofs.whole_text.Goals as goal

pub returns : goal.returns
returns c = (refl, whole-text, whole-text-from)
