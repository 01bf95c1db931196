use mathlib.Core.Path.{refl}
use Rattle.state_text.proofs.Calls.{saved-at-end, saved-at-stop, save-printed, save-from-printed, play-from-printed}
use Rattle.state_text.proofs.saved_whole.Goals as goal

pub returns : goal.returns
returns c = (refl, saved-at-end, saved-at-stop, save-printed, save-from-printed, play-from-printed)
