-- One event: what it prints, and that the player goes on.
use Prim.Native.Nat.{ℕ, ◌≤◌}
use mathlib.Core.Path.{◌≡◌, refl, ap}
use mathlib.Core.Bool.{Bool, true, false}
use mathlib.Core.List.{List}
use Rattle.std.specs.Prelude.{Some}
use native.Mathlib.Omega.{arith}
use lib.Dec.{eqb}
use lib.ListN.{length, length-append, length-replicate}
use borrow.Author.Tests.{eq-eqb}
use Rattle.basics.proofs.Basics.{by_bool}
use Rattle.rig.specs.declared.Answer.{Answer}
use Rattle.rig.specs.declared.Event.{Event}
use Rattle.rig.specs.declared.Message.{Message}
use Rattle.rig.specs.Limits.{message_limit}
use Rattle.model.specs.State.{Stored, under_way, desk_of}
use Rattle.model.specs.Shape.{well_shaped}
use Rattle.model.specs.Run.{waiting_count}
use Rattle.model.specs.Printed.{inside_up_to, line_of}
use Rattle.model.specs.Event.{Answer as Answered, actor, padded, answer, accepted_state, settled, event_at, played, tested, event}
use Rattle.model.proofs.Codes.{event-long}
use Rattle.model_shaped.specs.Kept.{Playable, ShapeKept}
use Rattle.model_shaped.proofs.Events.{shape-kept}
use Rattle.list_rows.specs.Rows.{ZeroPast}
use Rattle.list_rows.specs.State.{stored}
use Rattle.player_printing.specs.Printing.{step_line, Printed}
use Rattle.player_text.specs.declared.Player.{Player}
use Rattle.player_text.specs.declared.Stage.TheVariants.{Events}
use Rattle.player_text.specs.Player.{counted, printed_line, on_event}
use Rattle.player_text.specs.Calls.{text, FitsEvents, HoldsAt, PlayerFits, GivesOutcome}

-- a state that needs no test
pub untested : (s : Stored) (e : Event) → Playable s → event s e ≡ played s e
unfolding event tested
untested s e h = rw (eq-eqb _ message_limit h.long, h.shaped)

-- a list of 1,024 entries alone
pub long-tested : (s : Stored) (e : Event) → length s.list ≡ message_limit → event s e ≡ tested s e
unfolding event
long-tested s e h = rw (eq-eqb _ message_limit h)

padded-few : (ms : List Message) → length (padded ms) ≡ message_limit → length ms ≤ message_limit
unfolding padded
padded-few ms h = let e = rw (length-append, length-replicate) at h in omega arith

-- at most 1,024 messages are under way after an event
event-few : (s : Stored) (e : Event) → length s.list ≡ message_limit → s.count ≤ message_limit → (event s e).next.count ≤ message_limit
unfolding event tested played settled accepted_state
event-few s e long few =
    let after = event-long s e long in
    let o = event_at s.tables.rig.accepted (desk_of s.tables (actor e)) (under_way s) e in
    let a = eq-eqb _ message_limit long in
    by_bool (well_shaped s)
    (λ b. by_bool (eqb o.code 0)
    (λ c. rw (a, b, c) (padded-few o.messages (rw (a, b, c) at after)))
    (λ c. rw (a, b, c) few))
    (λ b. rw (a, b) few)

-- an event leaves a state among the events
fits_next : (b : Bool) (s : Stored) (e : Event) → FitsEvents b s → FitsEvents b (event s e).next
unfolding ShapeKept
fits_next true s e h = (event-long s e h.0, event-few s e h.0 h.1)
fits_next false s e h = shape-kept s e h

abbrev next : Player → Answer → ℕ → ℕ → Player
next p r read place = record { stage = Events; line = read; step = place; size = p.size; given = p.given; sets = p.sets; rig = r.rig; count = r.count; tested = p.tested }

module _ (p : Player) (e : Event) (ts : List (List (List ℕ))) (rows : List (List ℕ)) (r : Answer) (ts' : List (List (List ℕ))) (rows' : List (List ℕ)) where
  pub plays : {page after : List ℕ} (n read place inside waiting : ℕ)
      → HoldsAt Events p ts rows
      → answer r.code (stored r.rig ts' rows' r.count) ≡ event (stored p.rig ts rows p.count) e
      → ZeroPast r.count rows'
      → read ≡ counted p.line → place ≡ counted p.step
      → inside ≡ inside_up_to r.rig r.rig.size → waiting ≡ waiting_count r.rig
      → Printed (step_line place r.code inside waiting r.count) page after n
      → GivesOutcome (on_event (text p ts rows) (Some e)) (text (next p r read place) ts' rows') page after n
      × PlayerFits (next p r read place) ts' rows'
  unfolding on_event printed_line line_of
  plays n read place inside waiting fits s z f g i w line = (
    rw (← s, ← f, ← g) (record { known = refl; printed = rw (← i, ← w) line }),
    record { fits = (rw (ap (λ (a : Answered). a.next) s) (fits_next p.tested (stored p.rig ts rows p.count) e fits.0), z) },
  )
