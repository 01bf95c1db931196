-- An ask or a leave that is refused; and of one that is possible: what a rule carried out at its site's desk is the turn's outcome, and what it sent is
-- what the turn leaves in the outbox.
use Prim.Native.Nat.{ℕ}
use mathlib.Core.Path.{◌≡◌, sym, ap, ◌∙◌}
use mathlib.Core.Bool.{true, false}
use mathlib.Core.List.{List}
use Rattle.rig.specs.declared.Desk.{Desk}
use Rattle.rig.specs.declared.Message.{Message}
use Rattle.model.specs.State.{is_resting, is_inside}
use Rattle.model.specs.Desk.{Effect}
use Rattle.model.specs.Ask.{asked}
use Rattle.model.specs.Leave.{left}
use Rattle.model.specs.Event.{attempt, possible, refused, judged}
use Rattle.event_effects.specs.declared.Acted.{Acted}
use Rattle.event_effects.specs.Effects.{CarriesOut}
use Rattle.event_storing.specs.Leaves.{messages_in, effect_of, staying}
use Rattle.event_storing.specs.Outbox.{outbox_after}
use Rattle.event_storing.proofs.Carried.{carried-effect, carried-outbox, all_stay, same-judged}
use Rattle.event_turns.specs.Turns.{ask_attempt, leave_attempt}

module _ (d : Desk) (ms : List Message) where
  pub turned_down : (is_resting d.site.mode ≡ false → ask_attempt d ms ≡ refused 5) × (is_inside d.site.mode ≡ false → leave_attempt d ms ≡ refused 6)
  unfolding attempt
  turned_down = (λ e. rw e, λ e. rw e)

  pub turned : (is_resting d.site.mode ≡ true → ask_attempt d ms ≡ possible (asked d) ms) × (is_inside d.site.mode ≡ true → leave_attempt d ms ≡ possible (left d) ms)
  unfolding attempt
  turned = (λ e. rw e, λ e. rw e)

-- u is the desk that the call put together
module _ (rule : Desk → Effect) {d u : Desk} {rows after : List (List ℕ)} {a : Acted} (s : CarriesOut (rule u) 0 rows after a) (e : u ≡ d) where
  pub turn-judged : (accepted n : ℕ) (list : List (List ℕ))
      → judged accepted d (messages_in n list) (possible (rule d) (messages_in n list)) ≡ judged accepted d (messages_in n list) (possible (effect_of a after) (staying n n list))
  turn-judged accepted n list = sym (same-judged accepted d (messages_in n list) (carried-effect s ∙ ap rule e) (all_stay n list))

  pub turn-outbox : (n : ℕ) (list : List (List ℕ)) → after ≡ outbox_after (possible (rule d) (messages_in n list)) rows
  turn-outbox n list = rw (← e) (carried-outbox s (messages_in n list))
