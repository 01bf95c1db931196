-- Document 01's number and values for each case of `Found`, the answer of `list_search::first`.
use Rattle.std.specs.Prelude.{ℕ, suc, List, ◌++◌, get_or, take, drop}
use Rattle.rig.specs.declared.Desk.{Desk}
use Rattle.rig.specs.declared.Message.{Message}
use Rattle.model.specs.Deliver.{delivered}
use Rattle.model.specs.Event.{Attempt, refused, possible, Outcome, judged, blank_message}
use Rattle.list_search.specs.declared.Found.{Found}
use Rattle.list_search.specs.declared.Found.TheVariants.{At, Nowhere}
use Rattle.list_search.specs.Places.{found_in}
use Rattle.event_storing.specs.Leaves.{messages_in}

-- What a delivery makes of a place: the message there is delivered and the others stay under way; "7 for a delivery where nothing is
-- under way from a to b".
unfoldable pub attempt_at : Desk → List Message → Found → Attempt
attempt_at d ms (At place) = possible (delivered d (get_or ms place blank_message)) (take place ms ++ drop (suc place) ms)
attempt_at d ms Nowhere = refused 7

-- a delivery from a to b, of the first n rows of a list, by the place that the search finds; and its outcome
abbrev pub attempt_from : ℕ → ℕ → Desk → ℕ → List (List ℕ) → Attempt
attempt_from a b d n rows = attempt_at d (messages_in n rows) (found_in a b (take n rows))

abbrev pub delivered_from : ℕ → ℕ → ℕ → Desk → ℕ → List (List ℕ) → Outcome
delivered_from a b accepted d n rows = judged accepted d (messages_in n rows) (attempt_from a b d n rows)
