-- `places`: the digits counted, and those of the rest.
use native.Mathlib.Omega.{arith}
use lib.ListN.{length-append}
use Rattle.player_bytes.specs.Decimal.{decimal}
use Rattle.player_bytes.proofs.Digits.{decimal-room, one-digit, longer, some-digit, decimal-length}
use Rattle.player_bytes.proofs.places.Goals as goal

pub loop-rest-init : goal.loop-rest-init
unfolding decimal
loop-rest-init c = (19, decimal-room c.args.n (omega arith), omega arith)

pub overflow_add-k : goal.overflow_add-k
overflow_add-k c =
    let l = c.loop-rest in
    omega (arith, decimal-length c.args.n, some-digit l.invariant.0 l.rest)

pub loop-rest-preserved : goal.loop-rest-preserved
loop-rest-preserved c =
    let l = c.loop-rest in
    let m = longer l.invariant.0 l.rest c.loop-rest-test.true l.invariant.1 in
    let e = rw m.shown at l.invariant.2 in
    (m.fewer, m.room, omega (arith, simp length-append at e))

pub returns : goal.returns
returns c =
    let l = c.loop-rest in
    let e = rw (one-digit l.invariant.0 l.rest c.loop-rest-test.false) at l.invariant.2 in
    omega arith
