-- `step_at`: 4, or the event by its kind.
use mathlib.Core.Path.{refl, sym, ◌∙◌}
use borrow.Author.Tests.{not-true, not-false}
use Rattle.basics.proofs.Basics.{and_split}
use Rattle.model.specs.State.{in_range}
use Rattle.model.specs.Event.{actor, sites_named}
use Rattle.event_desks.specs.Parts.{desk_at}
use Rattle.event_storing.specs.Leaves.{messages_in}
use Rattle.event_storing.specs.Outbox.{outbox_after}
use Rattle.event_storing.proofs.Leaving.{left_alone}
use Rattle.event_deliveries.proofs.AtPlace.{attempt-at}
use Rattle.event_at_site.proofs.AtSite.{unnamed, named, unnamed-attempt, named-attempt}
use Rattle.event_at_site.proofs.step_at.Goals as goal

pub returns-then-not-sites_named : goal.returns-then-not-sites_named
unfolding outbox_after
returns-then-not-sites_named c =
    let a = c.args in
    let d = desk_at a.size (actor a.e) a.set a.site a.arbiter a.tables.now in
    let ms = messages_in a.count a.list.now in
    let no = sym c.sites_named.ensures ∙ not-true _ c.if-not-sites_named.true-raw in
    rw (unnamed a.accepted d ms a.e no, unnamed-attempt d ms a.e no, c.refused.ensures) (left_alone a.tables.now _ a.list.now _ (actor a.e) a.count 4 a.size a.set a.site a.arbiter ms refl refl refl c.requires.zeros, refl)

pub ask-requires : goal.ask-requires
unfolding actor sites_named
ask-requires c =
    let q = c.in-Ask.is in
    (rw q at (sym c.sites_named.ensures ∙ not-false _ c.if-not-sites_named.false-raw), rw q at c.requires)

pub leave-requires : goal.leave-requires
unfolding actor sites_named
leave-requires c =
    let q = c.in-Leave.is in
    (rw q at (sym c.sites_named.ensures ∙ not-false _ c.if-not-sites_named.false-raw), rw q at c.requires)

pub deliver-requires : goal.deliver-requires
unfolding actor sites_named
deliver-requires c =
    let q = c.in-Deliver.is in
    let n = c.args.size in
    ((and_split (in_range n c.in-Deliver.a) (in_range n c.in-Deliver.b) (rw q at (sym c.sites_named.ensures ∙ not-false _ c.if-not-sites_named.false-raw))).1, rw q at c.requires)

pub returns-in-Ask : goal.returns-in-Ask
unfolding actor
returns-in-Ask c =
    let a = c.args in
    let d = desk_at a.size (actor a.e) a.set a.site a.arbiter a.tables.now in
    let ms = messages_in a.count a.list.now in
    let yes = sym c.sites_named.ensures ∙ not-false _ c.if-not-sites_named.false-raw in
    rw (named a.accepted d ms a.e yes, named-attempt d ms a.e yes, c.in-Ask.is) c.ask.ensures

pub returns-in-Leave : goal.returns-in-Leave
unfolding actor
returns-in-Leave c =
    let a = c.args in
    let d = desk_at a.size (actor a.e) a.set a.site a.arbiter a.tables.now in
    let ms = messages_in a.count a.list.now in
    let yes = sym c.sites_named.ensures ∙ not-false _ c.if-not-sites_named.false-raw in
    rw (named a.accepted d ms a.e yes, named-attempt d ms a.e yes, c.in-Leave.is) c.leave.ensures

pub returns-in-Deliver : goal.returns-in-Deliver
unfolding actor
returns-in-Deliver c =
    let a = c.args in
    let d = desk_at a.size (actor a.e) a.set a.site a.arbiter a.tables.now in
    let ms = messages_in a.count a.list.now in
    let q = c.in-Deliver.is in
    let yes = sym c.sites_named.ensures ∙ not-false _ c.if-not-sites_named.false-raw in
    rw (named a.accepted d ms a.e yes, named-attempt d ms a.e yes, q, attempt-at) c.deliver.ensures
