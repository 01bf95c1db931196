-- `hand_on_member`: what is sent on if the member is held, else nothing.
use borrow.Author.Tests.{ne_eqb}
use Rattle.model.proofs.Tables.{at_read}
use Rattle.event_effects.proofs.Effects.{sent-none}
use Rattle.site_leaves.proofs.hand_on_member.Goals as goal

pub returns-then-g-eq0 : goal.returns-then-g-eq0
returns-then-g-eq0 c =
    let a = c.args in
    rw (at_read 0 a.d.now.held a.j c.requires.1.low, c.if-g-eq0.true) sent-none

pub hand_on-requires : goal.hand_on-requires
hand_on-requires c =
    let a = c.args in
    (rw (← (at_read 0 a.d.now.held a.j c.requires.1.low)) c.requires.2, c.requires.3)

pub returns : goal.returns
returns c =
    let a = c.args in
    let low = c.requires.1.low in
    rw (at_read 0 a.d.now.held a.j low, at_read 0 a.d.now.heir a.j low, ne_eqb _ _ c.if-g-eq0.false) c.hand_on.ensures
