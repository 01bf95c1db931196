use mathlib.Core.Path.{refl}
use Rattle.model_earlier.proofs.Shapes.{earlier-shaped}
use Rattle.model_earlier.proofs.Events.{earlier-event}
use Rattle.model_earlier.proofs.Runs.{earlier-covered, earlier-unnumbered}
use Rattle.model_earlier.proofs.covered.Goals as goal

pub returns : goal.returns
returns c = (refl, earlier-shaped, earlier-event, earlier-covered, earlier-unnumbered)
