-- What a caller is told of an ask.
use Rattle.std.specs.Prelude.{ℕ, ◌≡◌, List, [], get_or}
use Rattle.rig.specs.declared.Rig.{Rig}
use Rattle.rig.specs.declared.Message.{Message}
use Rattle.rig.specs.declared.Event.TheVariants.{Ask}
use Rattle.rig.specs.Limits.{HELD, HEIR, INQUIRED, QUEUED}
use Rattle.model.specs.State.{Tables}
use Rattle.model.specs.Event.{Answer, event}
use Rattle.list_rows.specs.State.{Lent}
use Rattle.engine.specs.Lent.{before}

-- document 01's answer to an ask by site s, on the state before the call
abbrev pub ask_answered : Rig → Lent (List (List (List ℕ))) → Lent (List Message) → ℕ → ℕ → Answer
ask_answered g ts list n s = event (before g ts list n) (Ask s)

-- lent tables hold the four tables of a state, each at its index
abbrev pub Holds : List (List (List ℕ)) → Tables → Type 0
Holds ts t = (get_or ts HELD [] ≡ t.held) × (get_or ts HEIR [] ≡ t.heir) × (get_or ts INQUIRED [] ≡ t.inquired) × (get_or ts QUEUED [] ≡ t.queued)
