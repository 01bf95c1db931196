-- `grant`: a reply, then what `next_heir` sends.
use Rattle.model.specs.Arbiter.{granted}
use Rattle.event_effects.proofs.Effects.{sent-one, sent-more, carries-sent}
use Rattle.arbiter_grants.proofs.grant.Goals as goal

pub returns : goal.returns
unfolding granted
returns c =
    let u = rw c.requeued.ensures at c.held_by-u.ensures in
    let replied = sent-one (rw u at c.reply.ensures) c.append-replied.ensures in
    rw u (carries-sent (sent-more replied (rw u at c.next_heir-named.ensures)))
