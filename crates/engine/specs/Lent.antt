-- A state and an answer as the engine's caller has them, with the list as a slice of messages.
use Rattle.std.specs.Prelude.{ℕ, List}
use Rattle.rig.specs.declared.Rig.{Rig}
use Rattle.rig.specs.declared.Answer as R
use Rattle.rig.specs.declared.Message.{Message}
use Rattle.model.specs.State.{Stored, stored}
use Rattle.model.specs.Event.{Answer}
use Rattle.list_rows.specs.State.{Lent}

-- what a call answered, with the tables and the list that it left
abbrev pub answered : R.Answer → List (List (List ℕ)) → List Message → Answer
answered r ts list = record { code = r.code; next = stored r.rig ts list r.count }

-- the state before a call, and its answer with the state after it
abbrev pub before : Rig → Lent (List (List (List ℕ))) → Lent (List Message) → ℕ → Stored
before g ts list n = stored g ts.entry.now list.entry.now n

abbrev pub after : R.Answer → Lent (List (List (List ℕ))) → Lent (List Message) → Answer
after r ts list = answered r ts.exit.now list.exit.now
