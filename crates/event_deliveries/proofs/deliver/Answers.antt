-- `deliver`: 7, or what the rule does, judged.
use mathlib.Core.Path.{◌≡◌, refl, sym, ◌∙◌}
use mathlib.Core.List.{[]}
use native.Mathlib.Omega.{arith}
use lib.ListN.{length, get_or, take}
use borrow.Author.Rules.{rules}
use Rattle.rig.specs.Limits.{sent_limit}
use Rattle.model.specs.Deliver.{delivered}
use Rattle.model.specs.Event.{judged}
use Rattle.list_rows.specs.Rows.{message_of}
use Rattle.list_search.specs.declared.Found.TheVariants.{Nowhere}
use Rattle.list_search.specs.Places.{found_in}
use Rattle.list_search.proofs.Places.{found_at}
use Rattle.event_desks.specs.Parts.{desk_at}
use Rattle.event_storing.specs.Leaves.{messages_in}
use Rattle.event_storing.specs.Outbox.{outbox_after}
use Rattle.event_storing.proofs.Leaving.{left_alone}
use Rattle.event_storing.proofs.Carried.{carried-effect, carried-fits, carried-outbox, site-number}
use Rattle.event_deliveries.specs.AtPlace.{attempt_at}
use Rattle.event_deliveries.proofs.AtPlace.{others-at, message-at}
use Rattle.event_deliveries.proofs.deliver.Goals as goal

pub returns-in_default : goal.returns-in_default
unfolding attempt_at judged outbox_after
returns-in_default c =
    let a = c.args in
    let none : found_in a.a a.b (take a.count a.list.now) ≡ Nowhere = sym c.first.ensures ∙ c.in_default.is in
    rw (none, c.refused.ensures) (left_alone a.tables.now _ a.list.now _ a.b a.count 7 a.size a.set a.site a.arbiter (messages_in a.count a.list.now) refl refl refl c.requires.1.zeros, refl)

pub desk-d-requires : goal.desk-d-requires
desk-d-requires c = let p = c.requires in site-number p.1 p.0

pub offset_bounds-list-place : goal.offset_bounds-list-place
offset_bounds-list-place c =
    let a = c.args in
    let place = c.in-At.place in
    let found = sym c.first.ensures ∙ c.in-At.is in
    let f = found_at a.a a.b a.count a.list.now place found in
    let few = c.requires.1.few in
    record { fits = omega (arith, f.0) }

pub bounds-list-place : goal.bounds-list-place
bounds-list-place c =
    let a = c.args in
    let place = c.in-At.place in
    let found = sym c.first.ensures ∙ c.in-At.is in
    let f = found_at a.a a.b a.count a.list.now place found in
    let few = c.requires.1.few in
    omega (arith, f.0)

pub deliver-done-requires : goal.deliver-done-requires
deliver-done-requires c =
    let a = c.args in
    let p = c.requires in
    let place = c.in-At.place in
    let found = sym c.first.ensures ∙ c.in-At.is in
    let m = message_of (get_or a.list.now place []) in
    let names = p.1.messages a.a a.b m (found_at a.a a.b a.count a.list.now place found).2 in
    rw (c.desk-d.ensures, c.message-m.ensures) (record { size = p.1.size; grant = (p.1.numbers p.0).grant; names = names; room = omega arith })

pub conclude-requires : goal.conclude-requires
conclude-requires c =
    let a = c.args in
    let p = c.requires in
    let place = c.in-At.place in
    let found = sym c.first.ensures ∙ c.in-At.is in
    let f = found_at a.a a.b a.count a.list.now place found in
    let fits = carried-fits c.deliver-done.ensures in
    let long : length c.deliver-done.new.out ≡ sent_limit = search rules in
    (site-number p.1 p.0, omega (arith, f.0), p.1.few, fits, omega (arith, fits), p.1.zeros)

pub returns : goal.returns
unfolding attempt_at
returns c =
    let a = c.args in
    let d = desk_at a.size a.b a.set a.site a.arbiter a.tables.now in
    let ms = messages_in a.count a.list.now in
    let place = c.in-At.place in
    let found = sym c.first.ensures ∙ c.in-At.is in
    let did : _ ≡ delivered d (message_of (get_or a.list.now place [])) = carried-effect c.deliver-done.ensures ∙ rw (c.desk-d.ensures, c.message-m.ensures) in
    let m = message-at a.a a.b a.count a.list.now place found in (
      rw (found, m, others-at a.count a.list.now place, sym did) (c.conclude.ensures a.size a.set),
      rw (found, m, ← c.desk-d.ensures, ← c.message-m.ensures) (carried-outbox c.deliver-done.ensures _),
    )
