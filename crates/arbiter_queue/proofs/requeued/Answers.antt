-- `requeued`: the code's index of site k is k - 1.
use Rattle.model.proofs.Tables.{put-write}
use Rattle.arbiter_queue.proofs.requeued.Goals as goal

pub returns : goal.returns
returns c = rw (put-write _ _ _ c.requires.low)
