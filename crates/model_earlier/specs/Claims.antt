-- How the version before request 2.3 is part of this version, in which a fail under way may lose its number (`model`, specs/Losses): on sets of which none
-- strictly contains another. Others it let pass, and request 2.6 turns them away.
use Rattle.std.specs.Prelude.{ℕ, ◌≡◌, true, cond, List, eqb}
use Rattle.rig.specs.declared.Event.{Event}
use Rattle.rig.specs.declared.Message.{Message}
use Rattle.model.specs.Setup.{all_minimal, setup_code}
use Rattle.model.specs.State.{Stored, under_way, size_of, sets_of}
use Rattle.model.specs.Shape.{well_shaped}
use Rattle.model.specs.Event.{Answer, answer, event}
use Rattle.model.specs.Run.{fresh}
use Rattle.model.specs.Losses.{lost_all, with_lost, Move, run_with_losses}
use Rattle.model_earlier.specs.Rules as Earlier

-- no fail under way has a number
abbrev pub Unnumbered : Stored → Type 0
Unnumbered s = lost_all (under_way s) ≡ under_way s

-- no set of the state strictly contains another
abbrev pub Minimal : Stored → Type 0
Minimal s = all_minimal (size_of s.tables) (sets_of s.tables) ≡ true

-- Such a state that is well shaped for the version before is so for this one, and no fail under way has a number.
unfoldable pub EarlierShaped : Type 0
EarlierShaped = (s : Stored) → Minimal s → Earlier.well_shaped s ≡ true → (well_shaped s ≡ true) × Unnumbered s

-- an answer to an event on s, once every fail has lost its number; a refused event leaves s
unfoldable pub without_numbers : Stored → Answer → Answer
without_numbers s a = answer a.code (cond (eqb a.code 0) (with_lost (λ i. true) a.next) s)

-- One event on such a state without numbered fails: the version before has the code of this version, and leaves what this one leaves once every fail has
-- lost its number.
unfoldable pub EarlierEvent : Type 0
EarlierEvent = (s : Stored) (e : Event) → Minimal s → Unnumbered s → Earlier.event s e ≡ without_numbers s (event s e)

-- Every state of a run of the version before, of sets that setup passes now, is a state of a run of this version in which fails lose their numbers.
unfoldable pub EarlierCovered : Type 0
EarlierCovered =
    (n : ℕ) (sets : List ℕ) (list : List Message) (es : List Event) →
    setup_code n sets ≡ 0 → (moves : List Move) × (Earlier.run (fresh n sets list) es ≡ run_with_losses (fresh n sets list) moves)

-- In none of them a fail under way has a number.
unfoldable pub EarlierUnnumbered : Type 0
EarlierUnnumbered =
    (n : ℕ) (sets : List ℕ) (list : List Message) (es : List Event) →
    setup_code n sets ≡ 0 → Unnumbered (Earlier.run (fresh n sets list) es)
