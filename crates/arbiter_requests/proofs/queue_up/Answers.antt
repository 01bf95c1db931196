-- `queue_up`: the head of the queue before, then the answers of the desk after.
use native.Mathlib.Omega.{arith}
use Rattle.model.specs.Arbiter.{head_of, queued_up}
use Rattle.model.proofs.Heads.{head-within}
use Rattle.event_effects.proofs.Effects.{carries-sent}
use Rattle.arbiter_requests.proofs.queue_up.Goals as goal

pub answers-sent-requires : goal.answers-sent-requires
answers-sent-requires c =
    let u = c.requeued-u.ensures in
    let w = head-within c.args.d.queued c.args.d.size in
    (rw u (record { size = omega arith; grants = omega arith; room = omega arith }), c.requires.1, omega arith)

pub returns : goal.returns
unfolding queued_up head_of
returns c =
    let u = c.requeued-u.ensures in
    rw u (carries-sent (rw (u, c.head-former.ensures) at c.answers-sent.ensures))
