-- Document 01, "What is turned down, by operation": an event, with its code, the next state and the list.
use Rattle.std.specs.Prelude.{ℕ, ◌+◌, ◌-◌, Bool, true, not, ◌&&◌, ◌||◌, cond, List, [], ◌∷◌, ◌++◌, eqb, leb, ltb, length, replicate}
use Rattle.std.proofs.Math.Option.{Option, none, some}
use Rattle.basics.specs.Helpers.{first, without_first}
use Rattle.rig.specs.declared.Desk.{Desk}
use Rattle.rig.specs.declared.Message.{Message}
use Rattle.rig.specs.declared.Event.{Event}
use Rattle.rig.specs.declared.Event.TheVariants.{Ask, Leave, Deliver}
use Rattle.rig.specs.Limits.{message_limit, event_limit, number_limit}
use Rattle.model.specs.State.{Tables, in_range, is_resting, is_inside, desk_of, with_desk, with_accepted, Stored, under_way}
use Rattle.model.specs.Desk.{Effect}
use Rattle.model.specs.Ask.{asked}
use Rattle.model.specs.Leave.{left}
use Rattle.model.specs.Deliver.{between, delivered}
use Rattle.model.specs.Shape.{is_number, well_shaped}

-- the site at which an event happens: the asker, the leaver or the receiver
unfoldable pub actor : Event → ℕ
actor (Ask s) = s
actor (Leave s) = s
actor (Deliver a b) = b

-- "4 if a named site is outside 1 to N."
unfoldable pub sites_named : ℕ → Event → Bool
sites_named n (Ask s) = in_range n s
sites_named n (Leave s) = in_range n s
sites_named n (Deliver a b) = in_range n a && in_range n b

-- What the rules make of an event at a desk: refused with 4 to 7, or an effect, beside the messages that stay under way.
pub data Attempt : Type 0 where
  refused : ℕ → Attempt
  possible : Effect → List Message → Attempt

-- "The first message from a to b is taken off"; "7 for a delivery where nothing is under way from a to b"
unfoldable pub taken_off : Desk → Option Message → List Message → Attempt
taken_off d none rest = refused 7
taken_off d (some m) rest = possible (delivered d m) rest

-- "Then 5 for an ask by a site not at rest, 6 for a leave by one not inside"
unfoldable pub attempt : Desk → List Message → Event → Attempt
attempt d ms (Ask s) = cond (is_resting d.site.mode) (possible (asked d) ms) (refused 5)
attempt d ms (Leave s) = cond (is_inside d.site.mode) (possible (left d) ms) (refused 6)
attempt d ms (Deliver a b) = taken_off d (first (between a b) ms) (without_first (between a b) ms)

-- "4 if a named site is outside 1 to N. Then ..."
unfoldable pub attempted : Desk → List Message → Event → Attempt
attempted d ms e = cond (not (sites_named d.size e)) (refused 4) (attempt d ms e)

-- no message's number passes b
unfoldable pub numbers_up_to : ℕ → List Message → Bool
numbers_up_to b [] = true
numbers_up_to b (m ∷ ms) = leb m.number b && numbers_up_to b ms

-- The numbers that an event makes are its site's clock, which is also the sequence number of an ask, its arbiter's grant number, and
-- those of the messages sent: none passes 2,000,000.
unfoldable pub numbers_fit : ℕ → ℕ → List Message → Bool
numbers_fit clock grant sent = is_number clock && (is_number grant && numbers_up_to number_limit sent)

-- "Then 9 if 1,000,000 events have been accepted or a number would pass 2,000,000. Last, 8 if the list would pass 1,024 after the
-- event.": rest is how many messages stay under way
unfoldable pub limit_code : ℕ → ℕ → ℕ → List Message → ℕ → ℕ
limit_code accepted clock grant sent rest =
    cond (leb event_limit accepted || not (numbers_fit clock grant sent)) 9
    (cond (ltb message_limit (rest + length sent)) 8
    0)

-- the same of an effect, where the messages rest stay under way
abbrev pub effect_code : ℕ → Effect → List Message → ℕ
effect_code accepted e rest = limit_code accepted e.desk.site.clock e.desk.arbiter.grant e.sent (length rest)

-- What an event makes at its site: the code, the desk and the messages under way after it.
pub record Outcome : Type 0 where
  pub code : ℕ
  pub desk : Desk
  pub messages : List Message

abbrev pub outcome : ℕ → Desk → List Message → Outcome
outcome c d ms = record { code = c; desk = d; messages = ms }

-- the limits are judged; where the event is refused, the desk and the messages stay as they are
unfoldable pub judged : ℕ → Desk → List Message → Attempt → Outcome
judged accepted d ms (refused c) = outcome c d ms
judged accepted d ms (possible e rest) =
    cond (eqb (effect_code accepted e rest) 0) (outcome 0 e.desk (rest ++ e.sent))
    (outcome (effect_code accepted e rest) d ms)

-- One event at its site, which has the desk d: no other site's part is read or written.
unfoldable pub event_at : ℕ → Desk → List Message → Event → Outcome
event_at accepted d ms e = judged accepted d ms (attempted d ms e)

-- the code of an event, and the state that it leaves
pub record Answer : Type 0 where
  pub code : ℕ
  pub next : Stored

abbrev pub answer : ℕ → Stored → Answer
answer c s = record { code = c; next = s }

abbrev pub blank_message : Message
blank_message = record { kind = 0; from = 0; to = 0; about = 0; number = 0 }

-- "its entries past the count ... are 0 after an accepted event"
unfoldable pub padded : List Message → List Message
padded ms = ms ++ replicate (message_limit - length ms) blank_message

-- the state after an accepted event at site k, which has the desk d now, with the messages ms under way
unfoldable pub accepted_state : Tables → ℕ → Desk → List Message → Stored
accepted_state t k d ms = record { tables = with_accepted (with_desk t k d) (t.rig.accepted + 1); list = padded ms; count = length ms }

-- "Nothing of the state or a lent buffer changes then", with a code other than 0
unfoldable pub settled : Stored → ℕ → Outcome → Answer
settled s k o = answer o.code (cond (eqb o.code 0) (accepted_state s.tables k o.desk o.messages) s)

-- the attempt of an event on a state
abbrev pub attempt_on : Stored → Event → Attempt
attempt_on s e = attempted (desk_of s.tables (actor e)) (under_way s) e

-- an event on a state that has passed the tests of its list and its shape: at its site, and the state that is left
unfoldable pub played : Stored → Event → Answer
played s e = settled s (actor e) (event_at s.tables.rig.accepted (desk_of s.tables (actor e)) (under_way s) e)

-- "10 if the state is misshapen ... 4 if a named site is outside 1 to N. Then ..."
unfoldable pub tested : Stored → Event → Answer
tested s e = cond (not (well_shaped s)) (answer 10 s) (played s e)

-- "An event. 13 first if a lent list of messages is not 1,024 entries long"
unfoldable pub event : Stored → Event → Answer
event s e = cond (not (eqb (length s.list) message_limit)) (answer 13 s) (tested s e)
