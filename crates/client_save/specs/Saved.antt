-- What a caller of the two public calls is told of a state that it writes and reads back.
use Rattle.std.specs.Prelude.{ℕ, ◌≤◌, true, List, ◌≡◌, length}
use Rattle.rig.specs.Limits.{message_limit}
use Rattle.model.specs.State.{Stored}
use Rattle.model.specs.Shape.{well_shaped}
use Rattle.model.specs.Event.{answer}
use Rattle.save_text.specs.Calls.{written, read_into}
use Rattle.save_text.specs.Claims.{IsState, kept, longest}
use Rattle.save_runs.specs.Breaks.{saved_in}

-- the state is written, and the text on the page, read into what a caller lends, is the state with 0 past its messages
pub record ReadBackFrom (page : List ℕ) (lent s : Stored) : Type 0 where
  pub code : (written s page).code ≡ 0
  pub read : read_into (saved_in (written s page)) lent ≡ answer 0 (kept s)

unfoldable pub SavedReadsBack : Type 0
SavedReadsBack =
    (page : List ℕ) (lent s : Stored) → longest ≤ length page → length lent.list ≡ message_limit →
    IsState s → well_shaped s ≡ true → ReadBackFrom page lent s
