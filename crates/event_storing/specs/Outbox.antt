-- What an event leaves in the outbox that it is lent.
use Rattle.std.specs.Prelude.{ℕ, ◌≡◌, List, ◌++◌, map, length, drop}
use Rattle.model.specs.Event.{Attempt, refused, possible}
use Rattle.list_rows.specs.Rows.{row_of}
use Rattle.list_rows.specs.State.{Lent}

-- What the rules refuse leaves it as it came. Else what the rule would send stands at its front, whether or not a limit then refuses
-- the event, and the rows behind are as they came. So the outbox is the one lent thing that a refusal may change: it is working room of
-- inner calls, and no buffer of document 01's operations.
unfoldable pub outbox_after : Attempt → List (List ℕ) → List (List ℕ)
outbox_after (refused c) rows = rows
outbox_after (possible e rest) rows = map row_of e.sent ++ drop (length e.sent) rows

-- the outbox that a call is lent, after it
abbrev pub Sends : Attempt → Lent (List (List ℕ)) → Type 0
Sends a out = out.exit.now ≡ outbox_after a out.entry.now
