-- `put_decimal`: the digits of the rest, stored on the page as it is, give the page with the whole number.
use Prim.Native.Nat.{suc, ◌+◌, ◌/◌, ◌%◌}
use mathlib.Core.Path.{◌≡◌, refl, ◌∙◌}
use native.Mathlib.Omega.{arith}
use lib.ListN.{length, length-append, length-set}
use Rattle.player_bytes.specs.Decimal.{digits, decimal}
use Rattle.player_bytes.proofs.Digits.{decimal-room, one-digit, longer, some-digit, decimal-length}
use Rattle.player_bytes.proofs.Stores.{last-first}
use Rattle.player_bytes.proofs.put_decimal.Goals as goal

pub overflow_sub-i : goal.overflow_sub-i
unfolding decimal
overflow_sub-i c = omega (arith, some-digit 19 c.args.n, c.places.ensures)

pub loop-rest-init : goal.loop-rest-init
unfolding decimal
loop-rest-init c =
    let n = c.args.n in
    let l = decimal-length n in
    let s = some-digit 19 n in
    (19, decimal-room n (omega arith), omega arith, refl, omega arith, refl)

pub overflow_sub-i-in-loop-rest : goal.overflow_sub-i-in-loop-rest
overflow_sub-i-in-loop-rest c =
    let l = c.loop-rest in
    let m = longer l.invariant.0 l.rest c.loop-rest-test.true l.invariant.1 in
    let e = simp length-append at (rw m.shown at l.invariant.4) in
    omega (arith, some-digit m.fewer (l.rest / 10))

pub loop-rest-preserved : goal.loop-rest-preserved
loop-rest-preserved c =
    let l = c.loop-rest in
    let a = c.args in
    let m = longer l.invariant.0 l.rest c.loop-rest-test.true l.invariant.1 in
    let xs = digits (suc m.fewer) (l.rest / 10) in
    let e = simp length-append at (rw m.shown at l.invariant.4) in
    let s = some-digit m.fewer (l.rest / 10) in
    let i : l.i ≡ a.at + length xs = omega arith in
    (m.fewer, m.room, simp length-set (omega arith), simp length-set l.invariant.3, omega arith, rw (c.last_digit.ensures, i) (last-first l.page a.at xs (48 + l.rest % 10) ∙ rw (← m.shown) l.invariant.5))

pub returns : goal.returns
returns c =
    let l = c.loop-rest in
    let a = c.args in
    let d = one-digit l.invariant.0 l.rest c.loop-rest-test.false in
    let e = rw d at l.invariant.4 in
    let i : l.i ≡ a.at = omega arith in
    record { behind = rw c.places.ensures; stored = rw (c.last_digit-2.ensures, i) (rw d at l.invariant.5) }
