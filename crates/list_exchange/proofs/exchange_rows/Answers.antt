-- `exchange_rows`: a row taken off or none, then the rows behind.
use mathlib.Core.Path.{◌≡◌}
use native.Mathlib.Omega.{arith}
use lib.ListN.{length}
use Rattle.list_exchange.specs.Exchange.{taken_out}
use Rattle.list_room.proofs.Without.{without-short, without_all}
use Rattle.list_exchange.proofs.Zeros.{taken-out-long, exchanged-off, exchanged-on}
use Rattle.list_exchange.proofs.exchange_rows.Goals as goal

pub append_all-requires : goal.append_all-requires
append_all-requires c =
    let a = c.args in
    let p = c.requires in
    let t = c.take_off-rest.ensures in
    let n : length (taken_out a.count a.place a.list.now) ≡ length a.list.now = taken-out-long a.count a.place a.list.now c.if-place-count.true p.1 in
    let w = without-short a.count a.place a.list.now c.if-place-count.true p.1 in
    (rw (t.1, n) (omega (arith, t.0, p.2)), p.3)

pub returns-then-place-count : goal.returns-then-place-count
returns-then-place-count c =
    let a = c.args in
    let p = c.requires in
    exchanged-off a.count a.place a.m a.list.now a.sent.now p.3 p.1 p.4 c.take_off-rest.result c.if-place-count.true p.2 c.take_off-rest.ensures c.append_all.ensures

pub append_all-requires-2 : goal.append_all-requires-2
append_all-requires-2 c =
    let a = c.args in
    let p = c.requires in
    let w = without_all a.count a.place a.list.now (omega (arith, p.0, c.if-place-count.false)) p.1 in
    (omega (arith, p.2, w), p.3)

pub returns : goal.returns
returns c =
    let a = c.args in
    let p = c.requires in
    exchanged-on a.count a.place a.m a.list.now a.sent.now p.3 p.1 p.4 (omega (arith, p.0, c.if-place-count.false)) p.2 c.append_all-2.ensures
