-- Request 2.2: "At most one site inside, one place for each permission and no stuck rig are then also true of runs resumed from a text saved in such
-- a run." A run with breaks is a list of events with a save and a read after any of them, any number of times; fails may lose their numbers, too.
use Rattle.std.specs.Prelude.{ℕ, ◌≤◌, true, cond, List, [], ◌∷◌, ◌++◌, ◌≡◌, eqb, length, take}
use Rattle.rig.specs.declared.Event.{Event}
use Rattle.rig.specs.declared.Message.{Message}
use Rattle.rig.specs.Limits.{message_limit}
use Rattle.model.specs.Setup.{setup_code}
use Rattle.model.specs.State.{Stored, under_way}
use Rattle.model.specs.Shape.{well_shaped}
use Rattle.model.specs.Event.{Answer, event}
use Rattle.model.specs.Run.{fresh, Sound}
use Rattle.model.specs.Losses.{Move, happens, loses, moved, run_with_losses}
use Rattle.model.specs.Printed.{printed}
use Rattle.save_text.specs.Text.{text_of}
use Rattle.save_text.specs.Calls.{Written, written, read_into}
use Rattle.save_text.specs.Claims.{IsState, kept}

-- What happens to a rig: a move, which is an event or lost numbers, or a break. In a break its state is written to a lent buffer, and the text read
-- into what another console lends.
pub data Act : Type 0 where
  moves : Move → Act
  pauses : List ℕ → Stored → Act

-- the text in a buffer that was written to
unfoldable pub saved_in : Written → List ℕ
saved_in w = take w.size w.buffer

-- what was read, or the state s where reading was refused
unfoldable pub or_saved : Stored → Answer → Stored
or_saved s a = cond (eqb a.code 0) a.next s

-- what is read of a buffer that was written to, or the state s where writing was refused
unfoldable pub after_reading : Stored → Written → Stored → Stored
after_reading s w lent = cond (eqb w.code 0) (or_saved s (read_into (saved_in w) lent)) s

-- the state after a break; where writing or reading is refused, nothing changes
unfoldable pub after_break : Stored → List ℕ → Stored → Stored
after_break s buffer lent = after_reading s (written s buffer) lent

unfoldable pub after : Stored → Act → Stored
after s (moves m) = moved s m
after s (pauses buffer lent) = after_break s buffer lent

unfoldable pub run_with_breaks : Stored → List Act → Stored
run_with_breaks s [] = s
run_with_breaks s (a ∷ acts) = run_with_breaks (after s a) acts

-- Demand 3 of runs with breaks: for every family that setup passes, every lent list and every list of events, lost numbers and breaks
unfoldable pub SoundWithBreaks : Type 0
SoundWithBreaks =
    (n : ℕ) (sets : List ℕ) (list : List Message) (acts : List Act) →
    setup_code n sets ≡ 0 → Sound (run_with_breaks (fresh n sets list) acts)

-- The moves among the acts, and the codes of events, without breaks and with them
unfoldable pub moves_in : List Act → List Move
moves_in [] = []
moves_in (moves m ∷ acts) = m ∷ moves_in acts
moves_in (pauses buffer lent ∷ acts) = moves_in acts

unfoldable pub codes_of : Stored → Move → List ℕ
codes_of s (happens e) = (event s e).code ∷ []
codes_of s (loses p) = []

unfoldable pub codes : Stored → List Move → List ℕ
codes s [] = []
codes s (m ∷ ms) = codes_of s m ++ codes (moved s m) ms

unfoldable pub codes_with_breaks : Stored → List Act → List ℕ
codes_with_breaks s [] = []
codes_with_breaks s (moves m ∷ acts) = codes_of s m ++ codes_with_breaks (moved s m) acts
codes_with_breaks s (pauses buffer lent ∷ acts) = codes_with_breaks (after_break s buffer lent) acts

-- two states that differ in the list past the messages under way at most
pub record SameState (s t : Stored) : Type 0 where
  pub tables : s.tables ≡ t.tables
  pub count : s.count ≡ t.count
  pub messages : under_way s ≡ under_way t

-- A break changes no table, no message under way and no code: the state and the codes are those of the same moves without breaks, from any state.
unfoldable pub BreaksUnseen : Type 0
BreaksUnseen =
    (s : Stored) (acts : List Act) → IsState s →
    SameState (run_with_breaks s acts) (run_with_losses s (moves_in acts)) × (codes_with_breaks s acts ≡ codes s (moves_in acts))

-- a break of the state s is taken where the buffer has room for the text and the lent list is 1,024 entries long: the state goes on, 0 past its messages
abbrev pub Taken : Stored → Type 0
Taken s =
    (buffer : List ℕ) (lent : Stored) →
    length (text_of s) ≤ length buffer → length lent.list ≡ message_limit → after_break s buffer lent ≡ kept s

-- No break of a run on a list of 1,024 entries is refused otherwise.
unfoldable pub BreaksTaken : Type 0
BreaksTaken =
    (n : ℕ) (sets : List ℕ) (list : List Message) (acts : List Act) →
    setup_code n sets ≡ 0 → length list ≡ message_limit → Taken (run_with_breaks (fresh n sets list) acts)

-- "So a run cut anywhere by `save` and gone on with prints the lines of the uncut run": from what was read, the events print what they print from
-- the state that was saved, place by place.
unfoldable pub LinesKept : Type 0
LinesKept = (s : Stored) (place : ℕ) (es : List Event) → IsState s → well_shaped s ≡ true → printed place (kept s) es ≡ printed place s es
