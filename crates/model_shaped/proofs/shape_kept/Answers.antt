use mathlib.Core.Path.{refl}
use Rattle.model_shaped.proofs.Events.{shape-kept-at, shape-kept}
use Rattle.model_shaped.proofs.Runs.{runs-playable}
use Rattle.model_shaped.proofs.shape_kept.Goals as goal

pub returns : goal.returns
returns c = (refl, shape-kept-at, shape-kept, runs-playable)
