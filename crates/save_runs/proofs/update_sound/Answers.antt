use mathlib.Core.Path.{refl}
use Rattle.save_runs.proofs.Update.{earlier-read, update-sound}
use Rattle.save_runs.proofs.update_sound.Goals as goal

pub returns : goal.returns
returns c = (refl, earlier-read, update-sound)
