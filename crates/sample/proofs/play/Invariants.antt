-- `play`: the rig, its tables and its list are a state of a run.
use Rattle.model.specs.State.{stored}
use Rattle.model.specs.Run.{OfRun}
use Rattle.sample.proofs.play.Given as goal

abbrev pub invariant-loop-i : goal.invariant-loop-i
invariant-loop-i g l = OfRun (stored l.rig l.tables l.list l.count)
