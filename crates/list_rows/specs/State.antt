-- A state and an answer as the code has them, with the list in rows.
use Rattle.std.specs.Prelude.{ℕ, List, map}
use Rattle.std.specs.Borrow.{MutBor}
use denote.Triple.Both.{Both}
use Rattle.rig.specs.declared.Rig.{Rig}
use Rattle.rig.specs.declared.Answer as R
use Rattle.model.specs.State.{tables, Stored}
use Rattle.model.specs.Event.{Answer}
use Rattle.list_rows.specs.Rows.{message_of}

-- a rig, its tables, the rows of the list, and how many messages are under way
abbrev pub stored : Rig → List (List (List ℕ)) → List (List ℕ) → ℕ → Stored
stored g ts rows n = record { tables = tables g ts; list = map message_of rows; count = n }

-- what a call is lent, before it (`entry`) and after it (`exit`)
abbrev pub Lent : Type 0 → Type 0
Lent A = Both (MutBor A) (MutBor A)

-- the state before a call, and its answer with the state after it
abbrev pub before : Rig → Lent (List (List (List ℕ))) → Lent (List (List ℕ)) → ℕ → Stored
before g ts rows n = stored g ts.entry.now rows.entry.now n

abbrev pub after : R.Answer → Lent (List (List (List ℕ))) → Lent (List (List ℕ)) → Answer
after r ts rows = record { code = r.code; next = stored r.rig ts.exit.now rows.exit.now r.count }
