-- `main`: a rig that setup answers starts a run.
use Rattle.sample.proofs.main.Goals as goal

pub play-requires : goal.play-requires
play-requires c = (2, _, rw c.in-Ok.is at c.setup.ensures.starts)
