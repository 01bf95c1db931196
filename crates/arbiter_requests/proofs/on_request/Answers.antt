-- `on_request`: the clock first, then a grant or the queue.
use native.Mathlib.Omega.{arith}
use borrow.Author.Tests.{eq-eqb, ne_eqb}
use Rattle.model.specs.Arbiter.{clock_raised, on_request}
use Rattle.arbiter_requests.proofs.on_request.Goals as goal

pub grant-requires : goal.grant-requires
unfolding clock_raised
grant-requires c =
    let u = c.clock_raised-u.ensures in
    (rw u (record { size = omega arith; grants = omega arith; room = omega arith }), c.requires.1)

pub returns-then-u-eq0 : goal.returns-then-u-eq0
unfolding on_request clock_raised
returns-then-u-eq0 c =
    let u = c.clock_raised-u.ensures in
    rw (eq-eqb _ 0 (rw u at c.if-u-eq0.true)) (rw u at c.grant.ensures)

pub queue_up-requires : goal.queue_up-requires
unfolding clock_raised
queue_up-requires c =
    let u = c.clock_raised-u.ensures in
    (rw u (record { size = omega arith; grants = omega arith; room = omega arith }), c.requires.1)

pub returns : goal.returns
unfolding on_request clock_raised
returns c =
    let u = c.clock_raised-u.ensures in
    rw (ne_eqb _ 0 (rw u at c.if-u-eq0.false)) (rw u at c.queue_up.ensures)
