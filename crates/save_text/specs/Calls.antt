-- Request 2.2, the two calls: what writing and reading answer, for every input. "Turned away: 13 first in both, as for an event; 14 for a text that no state
-- gives; 15 when writing to a buffer too short, after 10; all leave buffers unchanged."
use Rattle.std.specs.Prelude.{ℕ, Bool, not, cond, List, ◌++◌, eqb, ltb, length, drop}
use Rattle.std.proofs.Math.Option.{Option, none, some}
use Rattle.rig.specs.Limits.{message_limit}
use Rattle.model.specs.State.{Stored}
use Rattle.model.specs.Shape.{well_shaped}
use Rattle.model.specs.Event.{Answer, answer}
use Rattle.save_text.specs.Text.{text_of}
use Rattle.save_text.specs.Reading.{read_text}

-- "13 first in both, as for an event": the lent list of messages is 1,024 entries long
abbrev pub list_long : Stored → Bool
list_long s = eqb (length s.list) message_limit

-- the code of writing, the text's length, and the lent buffer
pub record Written : Type 0 where
  pub code : ℕ
  pub size : ℕ
  pub buffer : List ℕ

abbrev pub refused_to : List ℕ → ℕ → Written
refused_to buffer code = record { code = code; size = 0; buffer = buffer }

-- the text at the front of the buffer, "and leaves the bytes after it"; 15 where the buffer is too short
unfoldable pub stored_in : List ℕ → List ℕ → Written
stored_in buffer text =
    cond (ltb (length buffer) (length text)) (refused_to buffer 15)
    (record { code = 0; size = length text; buffer = text ++ drop (length text) buffer })

-- writing a state to a lent buffer
unfoldable pub written : Stored → List ℕ → Written
written s buffer =
    cond (not (list_long s)) (refused_to buffer 13)
    (cond (not (well_shaped s)) (refused_to buffer 10)
    (stored_in buffer (text_of s)))

-- what is read, else 14 and what was lent
unfoldable pub or_refused : Stored → Option Stored → Answer
or_refused lent none = answer 14 lent
or_refused lent (some s) = answer 0 s

-- reading a text into lent tables and a lent list
unfoldable pub read_into : List ℕ → Stored → Answer
read_into text lent = cond (not (list_long lent)) (answer 13 lent) (or_refused lent (read_text text))
