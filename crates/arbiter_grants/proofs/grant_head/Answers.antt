-- `grant_head`: nothing where the queue is empty, else the grant.
use borrow.Author.Rules.{rules}
use Rattle.arbiter_queue.proofs.Heads.{head-listed}
use Rattle.arbiter_grants.proofs.grant_head.Goals as goal

pub queued_at-n-requires : goal.queued_at-n-requires
queued_at-n-requires c = head-listed _ _ _ c.requires.size c.head-h.ensures c.if-h-eq0.false

pub grant-requires : goal.grant-requires
grant-requires c = (search rules, head-listed _ _ _ c.requires.size c.head-h.ensures c.if-h-eq0.false)
