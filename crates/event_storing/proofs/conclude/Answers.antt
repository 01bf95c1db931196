-- `conclude`: 9, 8, or the effect stored.
use mathlib.Core.Path.{refl, sym, ◌∙◌}
use borrow.Author.Tests.{leb-true, not-true, not-false}
use Rattle.event_desks.specs.Parts.{desk_at}
use Rattle.event_storing.specs.Leaves.{messages_in}
use Rattle.event_storing.proofs.Leaving.{left_alone, left-changed, told-9, told-8, told-0}
use Rattle.event_storing.proofs.conclude.Goals as goal

pub returns-then-over_limits : goal.returns-then-over_limits
returns-then-over_limits c n set =
    let a = c.args in
    let p = c.requires in
    let d = desk_at n a.s set a.site a.arbiter a.tables.now in
    let e = told-9 a.accepted d (messages_in a.count a.list.now) a.a a.out.now a.count a.place a.list.now p.3 (sym c.over_limits.ensures ∙ c.if-over_limits.true) in
    rw (e, c.refused.ensures) (left_alone a.tables.now _ a.list.now _ a.s a.count 9 _ _ a.site a.arbiter _ refl refl refl p.5)

pub returns-then-not-has_room : goal.returns-then-not-has_room
returns-then-not-has_room c n set =
    let a = c.args in
    let p = c.requires in
    let d = desk_at n a.s set a.site a.arbiter a.tables.now in
    let e = told-8 a.accepted d (messages_in a.count a.list.now) a.a a.out.now a.count a.place a.list.now p.3 (sym c.over_limits.ensures ∙ c.if-over_limits.false) (sym c.has_room.ensures ∙ not-true _ c.if-not-has_room.true-raw) in
    rw (e, c.refused-then-not-has_room.ensures) (left_alone a.tables.now _ a.list.now _ a.s a.count 8 _ _ a.site a.arbiter _ refl refl refl p.5)

pub exchange-n-requires : goal.exchange-n-requires
exchange-n-requires c =
    let p = c.requires in
    (p.1, p.2, leb-true _ _ (sym c.has_room.ensures ∙ not-false _ c.if-not-has_room.false-raw), p.3, p.5)

pub returns : goal.returns
returns c n set =
    let a = c.args in
    let p = c.requires in
    let d = desk_at n a.s set a.site a.arbiter a.tables.now in
    let room = sym c.has_room.ensures ∙ not-false _ c.if-not-has_room.false-raw in
    let e = told-0 a.accepted d (messages_in a.count a.list.now) a.a a.out.now a.count a.place a.list.now p.3 (sym c.over_limits.ensures ∙ c.if-over_limits.false) room in
    let x = c.exchange-n.ensures in
    rw e (left-changed a.tables.now _ a.list.now _ a.s a.count a.place a.a a.out.now c.exchange-n.result p.3 c.store_rows.ensures x.0 x.1 (rw x.0.count (leb-true _ _ room)))
