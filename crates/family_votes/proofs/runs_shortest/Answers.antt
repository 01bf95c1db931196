use mathlib.Core.Path.{refl}
use Rattle.family_votes.proofs.Shortest.{run-shortest}
use Rattle.family_votes.proofs.runs_shortest.Goals as goal

pub returns : goal.returns
returns c = (refl, run-shortest)
