-- `head_named`: a transfer, then an inquire by one test.
use Rattle.arbiter_queue.proofs.Heads.{head-listed}
use Rattle.arbiter_heirs.proofs.head_named.Goals as goal

pub before_holder-requires : goal.before_holder-requires
before_holder-requires c = head-listed _ _ _ c.requires.size c.head-h.ensures c.if-h-eq0.false
