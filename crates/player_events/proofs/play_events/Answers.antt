-- `play_events`: what was read is played and printed, and the counts are those of the rig.
use mathlib.Core.Path.{◌≡◌, refl, sym, ◌∙◌}
use mathlib.Core.Logic.{inl, inr}
use native.Mathlib.Omega.{arith}
use lib.ListN.{set}
use Rattle.rig.specs.declared.Rig.{Rig}
use Rattle.model.specs.Event.{actor}
use Rattle.model.specs.Run.{waiting_count}
use Rattle.model.specs.Printed.{inside_up_to}
use Rattle.event_sites.specs.Places.{place_of}
use Rattle.std.specs.Prelude.{Some}
use Rattle.player_grammar.specs.Grammar.{meaning_of}
use Rattle.player_text.specs.Player.{event_in}
use Rattle.player_next.specs.Lines.{between, LineTo}
use Rattle.player_events.proofs.Counts.{inside-kept, waiting_kept}
use Rattle.player_events.proofs.Reading.{next_fits, less-left}
use Rattle.player_events.proofs.Going.{begins, turn-ready, turn-size, turn-accepted, turn-goes, turn-stops, turn-full, turn-ends}
use Rattle.player_events.proofs.play_events.Goals as goal
use Rattle.player_events.proofs.play_events.Goals.{After-place_of-i, Joined-not-same_kind, then-not-same_kind, else-not-same_kind, else-loop-out-test, then-loop-out-test+in_default}

-- the line that is found, and the index of its event's site
found : (c : After-place_of-i) → LineTo c.in-Some.next.end c.loop-out.read c.args.text.now × (event_in (meaning_of (between c.loop-out.read c.in-Some.next.end c.args.text.now)) ≡ Some c.in-Some-event.e)
found c = let f = rw c.in-Some.is at c.next_line.ensures in (f.0, f.1 ∙ c.in-Some-event.is)

place : (c : After-place_of-i) → c.place_of-i.result ≡ place_of c.loop-out.rig.size (actor c.in-Some-event.e)
place c = rw c.actor.ensures at c.place_of-i.ensures.0

-- the rig that the event left, and its counts
abbrev after : Joined-not-same_kind → Rig
after c =
    let g = c.loop-out.rig in
    let i = c.place_of-i.result in
    let r = c.step_at-done.result in
    record { size = g.size; sets = g.sets; sites = set g.sites i r.site; arbiters = set g.arbiters i r.arbiter; accepted = c.counted_on.result }

recounted : (c : Joined-not-same_kind) → (c.if-not-same_kind.now_inside ≡ inside_up_to (after c) (after c).size) × (c.if-not-same_kind.now_waiting ≡ waiting_count (after c))
recounted c =
    let l = c.loop-out in
    let i = c.place_of-i.result in
    let v = c.step_at-done.result.site in
    elim c.if-not-same_kind.branch [
      | then-not-same_kind w ↦ (w.now_inside-is ∙ w.inside-now_inside-then-not-same_kind.ensures, w.now_waiting-is ∙ w.waiting-now_waiting-then-not-same_kind.ensures)
      | else-not-same_kind w ↦
          let kind = sym c.same_kind.ensures ∙ w.if-not-same_kind.false in
          (w.now_inside-is ∙ l.invariant.inside ∙ sym (inside-kept l.rig (after c) i v refl refl kind), w.now_waiting-is ∙ l.invariant.waiting ∙ sym (waiting_kept l.rig (after c) i v refl refl kind))
    ]

pub loop-out-init : goal.loop-out-init
loop-out-init c = let p = c.requires in begins p.0 p.1 p.2 p.3 p.4 c.inside-now_inside.ensures c.waiting-now_waiting.ensures

pub overflow_add-next : goal.overflow_add-next
overflow_add-next c =
    let f = rw c.in-Some.is at c.next_line.ensures in
    record { fits = next_fits f.0 c.well_formed.1.1.1.0.0 }

pub returns-in_default-event : goal.returns-in_default-event
returns-in_default-event c =
    let f = rw c.in-Some.is at c.next_line.ensures in
    turn-stops c.loop-out.invariant f.0 (f.1 ∙ c.in_default-event.is) c.stop_here.result (rw c.player_at.ensures at c.stop_here.ensures)

pub place_of-i-requires : goal.place_of-i-requires
place_of-i-requires c = turn-size c.loop-out.invariant

pub step_at-done-requires : goal.step_at-done-requires
step_at-done-requires c =
    let at = (goal.at.step_at-done-requires c).After-place_of-i in
    rw (place at) (turn-ready at.loop-out.invariant (actor at.in-Some-event.e))

pub counted_on-requires : goal.counted_on-requires
counted_on-requires c = turn-accepted c.loop-out.invariant

pub print_step-to-requires : goal.print_step-to-requires
print_step-to-requires c =
    let at = (goal.at.print_step-to-requires c).After-place_of-i in
    let room = at.loop-out.invariant.room in
    omega arith

pub overflow_add-read : goal.overflow_add-read
overflow_add-read c =
    let at = (goal.at.overflow_add-read c).After-place_of-i in
    record { fits = next_fits (found at).0 at.well_formed.1.1.1.0.0 }

pub loop-out-smaller : goal.loop-out-smaller
loop-out-smaller c = less-left (found (goal.at.loop-out-smaller c).After-place_of-i).0

pub loop-out-preserved : goal.loop-out-preserved
loop-out-preserved c =
    let at = (goal.at.loop-out-preserved c).After-place_of-i in
    let f = found at in
    let done = c.step_at-done in
    let counted = c.counted_on in
    let k = recounted (goal.at.loop-out-preserved c).Joined-not-same_kind in
    let w = c.print_step-to.ensures in
    turn-goes at.loop-out.invariant at.in-Some-event.e f.0 f.1 done.result at.place_of-i.result counted.result (place at) done.ensures.0 counted.ensures c.one_more-line.ensures c.one_more-step.ensures k.0 k.1 w.0 w.1

pub returns : goal.returns
returns c =
    let go = c.loop-out.invariant in
    turn-ends go c.player_at-2.result c.player_at-2.ensures (
    elim c.loop-out-test.branch [
      | else-loop-out-test w ↦ inr (inr (turn-full go w.loop-out-test.false))
      | then-loop-out-test+in_default w ↦ inl (rw w.in_default.is at w.next_line.ensures)
    ])
