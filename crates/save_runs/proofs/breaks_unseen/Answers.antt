use mathlib.Core.Path.{refl}
use Rattle.save_runs.proofs.Breaks.{breaks-unseen, breaks-taken, lines-kept}
use Rattle.save_runs.proofs.breaks_unseen.Goals as goal

pub returns : goal.returns
returns c = (refl, breaks-unseen, breaks-taken, lines-kept)
