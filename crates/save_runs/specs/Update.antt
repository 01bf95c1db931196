-- Request 2.3: "Saved texts with a fail numbered 0 are still read, and such a fail still counts as before." A show that the version before has played and
-- saved, and that this version goes on with.
use Rattle.std.specs.Prelude.{ℕ, true, List, [], ◌∷◌, ◌≡◌, length}
use Rattle.std.proofs.Math.Option.{some}
use Rattle.rig.specs.declared.Event.{Event}
use Rattle.rig.specs.declared.Message.{Message}
use Rattle.rig.specs.Limits.{message_limit}
use Rattle.model.specs.Setup.{setup_code}
use Rattle.model.specs.State.{Stored}
use Rattle.model.specs.Event.{answer}
use Rattle.model.specs.Run.{fresh, Sound}
use Rattle.model.specs.Losses.{Move, run_with_losses}
use Rattle.model_earlier.specs.Rules as Earlier
use Rattle.model_earlier.specs.Claims.{Minimal}
use Rattle.save_text.specs.Text.{text_in, first_spelling, text_of}
use Rattle.save_text.specs.Reading.{read_text}
use Rattle.save_text.specs.Calls.{read_into}
use Rattle.save_text.specs.Claims.{IsState, kept}
use Rattle.save_runs.specs.Breaks.{Act, run_with_breaks, SameState}

-- Every text of the version before is read, and written back as it is; but for sets of which one strictly contains another, which request 2.6 rejects.
unfoldable pub EarlierRead : Type 0
EarlierRead =
    (s : Stored) → IsState s → Minimal s → Earlier.well_shaped s ≡ true →
    (read_text (text_in first_spelling s) ≡ some (kept s)) × (text_of (kept s) ≡ text_in first_spelling s)

-- What happens to a rig in the version before: an event, or a break, from which its state goes on with 0 past its messages. That it read its own
-- text so was proved of that version, and is taken from it here.
pub data EarlierAct : Type 0 where
  plays : Event → EarlierAct
  pauses : EarlierAct

unfoldable pub earlier_after : Stored → EarlierAct → Stored
earlier_after s (plays e) = (Earlier.event s e).next
earlier_after s pauses = kept s

unfoldable pub earlier_run : Stored → List EarlierAct → Stored
earlier_run s [] = s
earlier_run s (a ∷ acts) = earlier_run (earlier_after s a) acts

-- A state of its run, saved in its own spelling: the text is read, what it says is a state of a run in which fails lose their numbers, but for what stands
-- past the messages, and demand 3 holds of every run from there, with breaks.
unfoldable pub UpdateSound : Type 0
UpdateSound =
    (n : ℕ) (sets : List ℕ) (list : List Message) (earlier : List EarlierAct) (lent : Stored) (acts : List Act) →
    setup_code n sets ≡ 0 → length list ≡ message_limit → length lent.list ≡ message_limit →
    let s = earlier_run (fresh n sets list) earlier in
    (read_into (text_in first_spelling s) lent ≡ answer 0 (kept s))
    × ((moves : List Move) × SameState (kept s) (run_with_losses (fresh n sets list) moves))
    × Sound (run_with_breaks (kept s) acts)
