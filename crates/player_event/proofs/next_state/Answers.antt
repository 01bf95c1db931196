-- `next_state`: tested, or not.
use mathlib.Core.Path.{sym, ◌∙◌}
use Rattle.list_rows.specs.State.{stored}
use Rattle.event_rows.specs.Tested.{tested_with}
use Rattle.player_event.proofs.Events.{untested, long-tested}
use Rattle.player_event.proofs.next_state.Goals as goal

pub event-requires : goal.event-requires
event-requires c =
    let p = c.requires in
    let h = rw c.if-tested.true at p.0 in
    (λ z. h.1, p.1)

pub returns-then-tested : goal.returns-then-tested
unfolding tested_with
returns-then-tested c =
    let start = c in
    let a = start.args in
    let h = rw c.if-tested.true at start.requires.0 in
    let r = c.event.ensures in
    (r.0 ∙ sym (long-tested (stored a.rig a.tables.now a.list.now a.count) a.e h.0), r.1)

pub step-requires : goal.step-requires
step-requires c =
    let start = c in
    let h = rw c.if-tested.false at start.requires.0 in
    (h.shaped, start.requires.1)

pub returns : goal.returns
returns c =
    let start = c in
    let a = start.args in
    let h = rw c.if-tested.false at start.requires.0 in
    let r = c.step.ensures in
    (r.0 ∙ sym (untested (stored a.rig a.tables.now a.list.now a.count) a.e h), r.1)
