-- What a call at one site leaves.
use Rattle.std.specs.Prelude.{ℕ, ◌≡◌, true, false, List, map, eqb, length, take}
use Rattle.rig.specs.declared.Site.{Site}
use Rattle.rig.specs.declared.Arbiter.{Arbiter}
use Rattle.rig.specs.declared.Desk.{Desk}
use Rattle.rig.specs.declared.Message.{Message}
use Rattle.model.specs.Desk.{Effect, effect}
use Rattle.model.specs.Event.{possible, Outcome, judged, padded}
use Rattle.list_rows.specs.Rows.{message_of, ZeroPast, without}
use Rattle.list_rows.specs.State.{Lent}
use Rattle.event_effects.specs.declared.Acted.{Acted}
use Rattle.event_desks.specs.Parts.{RowsStored}
use Rattle.event_storing.specs.declared.Done.{Done}

-- the answer of a refusal: the code, and the site, the arbiter and the count as they came
abbrev pub refused : ℕ → Site → Arbiter → ℕ → Done
refused code s a n = record { code = code; site = s; arbiter = a; count = n }

-- The outcome o of an event at site k is left: where it is refused, the list of n messages is as it came; else it has the outcome's
-- messages, and zeros behind them.
pub record Left (o : Outcome) (k n : ℕ) (ts ts' : List (List (List ℕ))) (list list' : List (List ℕ)) (r : Done) : Type 0 where
  pub code : r.code ≡ o.code
  pub site : r.site ≡ o.desk.site
  pub arbiter : r.arbiter ≡ o.desk.arbiter
  pub rows : RowsStored k o.desk ts ts'
  pub stays : eqb o.code 0 ≡ false → (r.count ≡ n) × (list' ≡ list)
  pub changes : eqb o.code 0 ≡ true → (r.count ≡ length o.messages) × (map message_of list' ≡ padded o.messages)
  pub zeros : ZeroPast r.count list'

-- of what a call is lent
abbrev pub Leaves : Outcome → ℕ → ℕ → Lent (List (List (List ℕ))) → Lent (List (List ℕ)) → Done → Type 0
Leaves o k n ts list r = Left o k n ts.entry.now ts.exit.now list.entry.now list.exit.now r

-- the messages under way, of a list in rows
abbrev pub messages_in : ℕ → List (List ℕ) → List Message
messages_in n rows = map message_of (take n rows)

-- what a rule did, with the rows that it sent
abbrev pub effect_of : Acted → List (List ℕ) → Effect
effect_of a out = effect a.desk (messages_in a.count out)

-- the messages that stay under way: of the first n, all but the one at a place; all where the place is n
abbrev pub staying : ℕ → ℕ → List (List ℕ) → List Message
staying n place rows = map message_of (without place (take n rows))

-- the outcome of an effect at the desk d, judged by the limits
abbrev pub concluded : ℕ → Desk → Lent (List (List ℕ)) → ℕ → ℕ → Acted → List (List ℕ) → Outcome
concluded accepted d list n place a out =
    judged accepted d (messages_in n list.entry.now) (possible (effect_of a out) (staying n place list.entry.now))
