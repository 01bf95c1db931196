-- `leave`: 6, or what the rule does, judged.
use mathlib.Core.Path.{◌≡◌, refl}
use native.Mathlib.Omega.{arith}
use lib.ListN.{length}
use borrow.Author.Rules.{rules}
use Rattle.basics.proofs.Tests.{failed, passed}
use Rattle.rig.specs.Limits.{sent_limit}
use Rattle.model.specs.Leave.{left}
use Rattle.event_desks.specs.Parts.{desk_at}
use Rattle.model.specs.Event.{judged}
use Rattle.event_storing.specs.Leaves.{messages_in}
use Rattle.event_storing.specs.Outbox.{outbox_after}
use Rattle.event_storing.proofs.Leaving.{left_alone}
use Rattle.event_storing.proofs.Carried.{carried-fits, site-number}
use Rattle.event_turns.proofs.Turns.{turned_down, turned, turn-judged, turn-outbox}
use Rattle.event_turns.proofs.leave.Goals as goal

pub returns-then-not-is_inside : goal.returns-then-not-is_inside
unfolding judged outbox_after
returns-then-not-is_inside c =
    let a = c.args in
    let d = desk_at a.size a.s a.set a.site a.arbiter a.tables.now in
    let ms = messages_in a.count a.list.now in
    let no = failed c.is_inside.ensures c.if-not-is_inside.true-raw in
    rw ((turned_down d ms).1 no, c.refused.ensures) (left_alone a.tables.now _ a.list.now _ a.s a.count 6 a.size a.set a.site a.arbiter ms refl refl refl c.requires.1.zeros, refl)

pub desk-d-requires : goal.desk-d-requires
desk-d-requires c = let p = c.requires in site-number p.1 p.0

pub leave-left-requires : goal.leave-left-requires
leave-left-requires c =
    let p = c.requires in
    let n = p.1.numbers p.0 in
    rw c.desk-d.ensures (record { size = p.1.size; held = λ j l h. n.held j (record { low = l; high = h }); room = omega arith })

pub conclude-requires : goal.conclude-requires
conclude-requires c =
    let p = c.requires in
    let fits = carried-fits c.leave-left.ensures in
    let long : length c.leave-left.new.out ≡ sent_limit = search rules in
    (site-number p.1 p.0, omega arith, p.1.few, fits, omega (arith, fits), p.1.zeros)

pub returns : goal.returns
returns c =
    let a = c.args in
    let d = desk_at a.size a.s a.set a.site a.arbiter a.tables.now in
    let ms = messages_in a.count a.list.now in
    let may = (turned d ms).1 (passed c.is_inside.ensures c.if-not-is_inside.false-raw) in
    let did = c.leave-left.ensures in
    let own = c.desk-d.ensures in
    (rw (may, turn-judged left did own a.accepted a.count a.list.now) (c.conclude.ensures a.size a.set), rw may (turn-outbox left did own a.count a.list.now))
