-- `on_transfer`: whether the number is the one held.
use Prim.Native.Nat.{◌-◌}
use lib.ListN.{get_or}
use borrow.Author.Tests.{eq-eqb, ne_eqb}
use Rattle.model.proofs.Tables.{at_read, put-write}
use Rattle.model.specs.Site.{on_transfer}
use Rattle.event_effects.proofs.Effects.{sent-none, carries-sent}
use Rattle.site_transfers.proofs.on_transfer.Goals as goal

pub returns-then-n-g : goal.returns-then-n-g
unfolding on_transfer
returns-then-n-g c =
    let a = c.args in
    let d = a.d in
    let low = c.requires.low in
    rw (at_read 0 d.held _ low, eq-eqb a.n (get_or d.held (a.j - 1) 0) c.if-n-g.true, put-write d.heir _ _ low) (carries-sent sent-none)

pub returns : goal.returns
unfolding on_transfer
returns c =
    let d = c.args.d in
    let low = c.requires.low in
    rw (at_read 0 d.held _ low, ne_eqb _ _ c.if-n-g.false) (carries-sent sent-none)
