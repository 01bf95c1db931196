-- A delivery by the place where the search finds its message.
use Rattle.std.specs.Prelude.{ℕ, suc, List, ◌++◌, ◌≡◌, get_or, take, drop}
use Rattle.rig.specs.declared.Rig.{Rig}
use Rattle.rig.specs.declared.Desk.{Desk}
use Rattle.rig.specs.declared.Message.{Message}
use Rattle.model.specs.State.{tables}
use Rattle.model.specs.Deliver.{delivered}
use Rattle.model.specs.Event.{Attempt, possible, judged, blank_message}
use Rattle.list_rows.specs.State.{Lent}
use Rattle.list_search.specs.declared.Found.{Found}
use Rattle.list_search.specs.declared.Found.TheVariants.{At, Nowhere}
use Rattle.event_storing.specs.declared.Done.{Done}
use Rattle.event_storing.specs.Leaves.{refused, Leaves, messages_in}
use Rattle.event_storing.specs.Outbox.{Sends}

-- the message at a place delivered, the others staying under way
abbrev pub taken_at : Desk → List Message → ℕ → Attempt
taken_at d ms place = possible (delivered d (get_or ms place blank_message)) (take place ms ++ drop (suc place) ms)

-- At a place: the delivery of that message, judged by the limits. Nowhere: 7, and nothing changes.
abbrev pub Delivers : Found → ℕ → ℕ → Desk → ℕ → Lent (List (List (List ℕ))) → Lent (List (List ℕ)) → Lent (List (List ℕ)) → Done → Type 0
Delivers (At place) accepted b d n ts rows out r =
    Leaves (judged accepted d (messages_in n rows.entry.now) (taken_at d (messages_in n rows.entry.now) place)) b n ts rows r
    × Sends (taken_at d (messages_in n rows.entry.now) place) out
Delivers Nowhere accepted b d n ts rows out r =
    (r ≡ refused 7 d.site d.arbiter n)
    × ((g : Rig) → tables g ts.exit.now ≡ tables g ts.entry.now)
    × (rows.exit.now ≡ rows.entry.now)
    × (out.exit.now ≡ out.entry.now)
