-- Request 2.3: "Saved texts with a fail numbered 0 are still read, and such a fail still counts as before." Demand 3 of every run in which, between
-- events, any fail under way may lose its number. Every state of a run of the version before, of sets that setup passes now, is a state of such a run (the
-- crate `model_earlier`).
use Rattle.std.specs.Prelude.{ℕ, suc, ◌≡◌, Bool, true, cond, List, [], ◌∷◌, eqb}
use Rattle.rig.specs.declared.Event.{Event}
use Rattle.rig.specs.declared.Message.{Message}
use Rattle.rig.specs.Messages.{FAIL}
use Rattle.model.specs.Setup.{setup_code}
use Rattle.model.specs.State.{Stored}
use Rattle.model.specs.Shape.{well_shaped}
use Rattle.model.specs.Event.{event}
use Rattle.model.specs.Run.{fresh, Sound}

-- the message with number 0, if it is a fail
unfoldable pub unnumbered : Message → Message
unnumbered m = cond (eqb m.kind FAIL) (record { kind = m.kind; from = m.from; to = m.to; about = m.about; number = 0 }) m

-- the messages once the fails at the places that p names, from 0, have lost their numbers
unfoldable pub lost : (ℕ → Bool) → List Message → List Message
lost p [] = []
lost p (m ∷ ms) = cond (p 0) (unnumbered m) m ∷ lost (λ i. p (suc i)) ms

-- once every fail has
abbrev pub lost_all : List Message → List Message
lost_all ms = lost (λ i. true) ms

unfoldable pub with_lost : (ℕ → Bool) → Stored → Stored
with_lost p s = record { tables = s.tables; list = lost p s.list; count = s.count }

-- What happens to a rig: an event, or fails lose their numbers.
pub data Move : Type 0 where
  happens : Event → Move
  loses : (ℕ → Bool) → Move

unfoldable pub moved : Stored → Move → Stored
moved s (happens e) = (event s e).next
moved s (loses p) = with_lost p s

unfoldable pub run_with_losses : Stored → List Move → Stored
run_with_losses s [] = s
run_with_losses s (m ∷ moves) = run_with_losses (moved s m) moves

-- a property of every state of every such run of sets that setup passes
abbrev pub AlwaysWithLosses : (Stored → Type 0) → Type 0
AlwaysWithLosses P =
    (n : ℕ) (sets : List ℕ) (list : List Message) (moves : List Move) →
    setup_code n sets ≡ 0 → P (run_with_losses (fresh n sets list) moves)

-- Demand 3 of them; a run of events is one without losses.
unfoldable pub SoundWithLosses : Type 0
SoundWithLosses = AlwaysWithLosses Sound

-- Their states are well shaped.
unfoldable pub ShapedWithLosses : Type 0
ShapedWithLosses = AlwaysWithLosses (λ s. well_shaped s ≡ true)
