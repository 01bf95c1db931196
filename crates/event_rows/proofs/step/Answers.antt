-- `step`: the parts of one site, and where they are stored.
use mathlib.Core.Path.{◌≡◌}
use native.Mathlib.Omega.{arith}
use Rattle.model.specs.Event.{actor}
use Rattle.event_sites.specs.Places.{place_of}
use Rattle.event_rows.proofs.Ready.{ready, size-high, accepted-high}
use Rattle.event_rows.proofs.Stepping.{same_attempt, stepped-at}
use Rattle.event_rows.proofs.step.Goals as goal

pub place_of-i-requires : goal.place_of-i-requires
place_of-i-requires c =
    let a = c.args in
    let high = size-high a.rig a.tables.now 0 a.list.now a.count c.requires.0 in
    omega (arith, high)

pub step_at-done-requires : goal.step_at-done-requires
step_at-done-requires c =
    let a = c.args in
    let p = c.requires in
    let i : c.place_of-i.result ≡ place_of a.rig.size (actor a.e) = rw c.actor.ensures at c.place_of-i.ensures.0 in
    rw i (ready a.rig a.tables.now (actor a.e) a.list.now a.count p.0 p.1)

pub counted_on-requires : goal.counted_on-requires
counted_on-requires c =
    let a = c.args in
    accepted-high a.rig a.tables.now 0 a.list.now a.count c.requires.0

pub returns : goal.returns
returns c =
    let a = c.args in
    let i : c.place_of-i.result ≡ place_of a.rig.size (actor a.e) = rw c.actor.ensures at c.place_of-i.ensures.0 in
    let l = rw i at c.step_at-done.ensures in
    (stepped-at a.rig a.tables.now _ a.list.now _ a.count a.e c.step_at-done.result l.0 _ _ i c.counted_on.ensures, l.0.zeros, rw (same_attempt a.rig a.tables.now a.list.now a.count a.e) l.1)
