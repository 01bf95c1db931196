use mathlib.Core.Path.{refl}
use Rattle.save_runs.proofs.Breaks.{sound-with-breaks}
use Rattle.save_runs.proofs.sound_with_breaks.Goals as goal

pub returns : goal.returns
returns c = (refl, sound-with-breaks)
