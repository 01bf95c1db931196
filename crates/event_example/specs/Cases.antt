-- Document 01, "What is turned down, by operation", an event: the code that an event on a state must get, a case a line. For each clause of
-- code 10 there is a state that is wrong in one place, or, where a receiver or N is out of range, in that place and what follows from it.
use Rattle.std.specs.Prelude.{ℕ, ◌+◌, ◌-◌, ◌≡◌, false, cond, List, [], ◌∷◌, ◌++◌, map, eqb, replicate}
use Prim.Native.String.{String}
use Rattle.rig.specs.declared.Event.{Event}
use Rattle.rig.specs.declared.Event.TheVariants.{Ask, Leave, Deliver}
use Rattle.rig.specs.declared.Message.{Message}
use Rattle.rig.specs.declared.Mode.TheVariants.{Rest, Waiting, Inside}
use Rattle.rig.specs.Limits.{site_limit, message_limit, event_limit, number_limit}
use Rattle.rig.specs.Messages.{REQUEST, INQUIRE, FAIL, YIELD, request, reply, release, inquire, fail, yield, transfer}
use Rattle.model.specs.State.{Stored}
use Rattle.model.specs.Event.{blank_message, padded, event}
use Rattle.event_example.specs.States.{base_messages, Parts, as_is, state_with, base, site_is, arbiter_is, accepted_is, list_is, carries, many, full, size_is, set_is, held_is, heir_is, inquired_is, queued_is, at_limits, alike}

pub record Case : Type 0 where
  pub name : String
  pub state : Stored
  pub event : Event
  pub code : ℕ

abbrev pub case : String → Stored → Event → ℕ → Case
case name s e c = record { name = name; state = s; event = e; code = c }

-- the names of the cases that get another code
unfoldable pub misjudged : List Case → List String
misjudged [] = []
misjudged (c ∷ cs) = cond (eqb (event c.state c.event).code c.code) (misjudged cs) (c.name ∷ misjudged cs)

-- a case that changes neither sets nor tables
pub record Partial : Type 0 where
  pub name : String
  pub parts : Parts
  pub event : Event
  pub code : ℕ

abbrev pub part : String → Parts → Event → ℕ → Partial
part name p e c = record { name = name; parts = p; event = e; code = c }

unfoldable pub whole : Partial → Case
whole p = case p.name (state_with p.parts) p.event p.code

-- one message more under way, the first; site 2 asks
abbrev pub carrying : String → Message → ℕ → Partial
carrying name m c = part name (carries m as_is) (Ask 2) c

-- a message of any five numbers
abbrev pub message : ℕ → ℕ → ℕ → ℕ → ℕ → Message
message kind from to about number = record { kind = kind; from = from; to = to; about = about; number = number }

-- Sets or tables are changed

unfoldable pub whole_cases : List Case
whole_cases =
    -- sets that setup would refuse
    case "one site" (alike 1 1) (Ask 1) 0
    ∷ case "no site" (alike 0 0) (Ask 1) 10
    ∷ case "an empty set" (alike 1 0) (Ask 1) 10
    ∷ case "as many sites as there may be" (alike site_limit 1) (Ask site_limit) 0
    ∷ case "one site too many" (size_is (site_limit + 1) (alike site_limit 1)) (Ask 1) 10
    ∷ case "a set that names a site past N" (set_is 1 11 base) (Ask 2) 10
    ∷ case "sets 1 and 2 share no site" (set_is 2 4 base) (Ask 2) 10
    ∷ case "sets 2 and 3 share no site" (set_is 2 2 base) (Ask 2) 10
    ∷ case "sets 1 and 3 share no site, while neighbours do" (set_is 1 2 (set_is 2 6 (set_is 3 4 (alike 3 7)))) (Ask 2) 10
    ∷ case "set 3 strictly contains earlier sets" (set_is 3 7 base) (Ask 2) 10
    ∷ case "sets 2 and 3 are strictly contained in set 1" (set_is 1 7 base) (Ask 2) 10
    ∷ case "of four sets 2 and 4 alone: 4 strictly contains 2" (set_is 1 3 (set_is 2 5 (set_is 3 6 (set_is 4 13 (alike 4 15))))) (Ask 1) 10
    ∷ case "equal sets" (set_is 2 3 base) (Ask 2) 0
    ∷ case "a set past N" (set_is 4 1 base) (Ask 2) 10
    ∷ case "a set at the last place" (set_is site_limit 1 base) (Ask 2) 10
    -- an entry outside its range
    ∷ case "held with a number past the limit" (held_is 1 2 (number_limit + 1) base) (Ask 2) 10
    ∷ case "an inquire remembered with a number past the limit" (inquired_is 1 2 (number_limit + 1) base) (Ask 2) 10
    ∷ case "queued with a sequence number past the limit" (queued_is 2 1 (number_limit + 1) base) (Ask 2) 10
    -- an entry for a non-member
    ∷ case "held for a non-member" (held_is 1 3 1 base) (Ask 2) 10
    ∷ case "held by a site past N" (held_is 4 1 1 base) (Ask 2) 10
    ∷ case "held at the last place" (held_is site_limit site_limit 1 base) (Ask 2) 10
    ∷ case "an heir for a non-member" (heir_is 1 3 2 base) (Ask 2) 10
    ∷ case "an heir at the last place" (heir_is site_limit site_limit 1 base) (Ask 2) 10
    ∷ case "an inquire remembered for a non-member" (inquired_is 1 3 1 base) (Ask 2) 10
    ∷ case "an inquire remembered at the last place" (inquired_is site_limit site_limit 1 base) (Ask 2) 10
    -- a tie of a site to an arbiter outside its set
    ∷ case "an heir whose set lacks the arbiter" (heir_is 1 1 2 base) (Ask 2) 10
    ∷ case "an heir past N" (heir_is 1 1 4 base) (Ask 2) 10
    ∷ case "queued where the site's set lacks the arbiter" (queued_is 2 3 1 base) (Ask 2) 10
    ∷ case "a queued site past N" (queued_is 2 4 1 base) (Ask 2) 10
    ∷ case "queued by an arbiter past N" (queued_is 4 1 1 base) (Ask 2) 10
    ∷ case "queued at the last place" (queued_is site_limit site_limit 1 base) (Ask 2) 10
    -- 13 first, 10 before 4
    ∷ case "a list one entry short, in a misshapen state" (size_is 0 (state_with (list_is (many (message_limit - 1)) 0 as_is))) (Ask 2) 13
    ∷ case "an ask by site 0, in a misshapen state" (size_is 0 base) (Ask 0) 10
    -- numbers at their limits; 9 where the number of a reply would pass it
    ∷ case "numbers of each kind at their limits" at_limits (Ask 2) 0
    ∷ case "a leave that sends a number at the limit" (held_is 1 1 (number_limit - 1) (state_with (site_is 1 Inside 1 as_is))) (Leave 1) 0
    ∷ case "a leave that sends a number past the limit" (held_is 1 1 number_limit (state_with (site_is 1 Inside 1 as_is))) (Leave 1) 9
    ∷ []

-- Sets and tables are as they are

unfoldable pub part_cases : List Partial
part_cases =
    -- 13 first, 10 for the count
    part "a list one entry short" (list_is (replicate (message_limit - 1) blank_message) 0 as_is) (Ask 2) 13
    ∷ part "a list one entry too long" (list_is (replicate (message_limit + 1) blank_message) 0 as_is) (Ask 2) 13
    ∷ part "a list one entry short, with a count past the limit" (list_is (many (message_limit - 1)) (message_limit + 1) as_is) (Ask 2) 13
    ∷ part "a count past the limit" (list_is (many message_limit) (message_limit + 1) as_is) (Ask 2) 10
    ∷ part "a blank message under way" (list_is (padded base_messages) 4 as_is) (Ask 2) 10
    ∷ part "a misshapen message at the end" (list_is (padded (base_messages ++ (request 1 3 1 ∷ []))) 4 as_is) (Ask 2) 10
    ∷ part "a misshapen message past the count" (list_is (padded (base_messages ++ (request 1 3 1 ∷ []))) 3 as_is) (Ask 2) 0
    -- a field outside its range, or not 0 where the tables say 0
    ∷ part "one accepted event too many" (accepted_is (event_limit + 1) as_is) (Ask 2) 10
    ∷ part "a clock past the limit" (site_is 2 Rest (number_limit + 1) as_is) (Ask 2) 10
    ∷ part "a waiting site with sequence number 0" (site_is 2 (Waiting 0 false) 0 as_is) (Ask 2) 10
    ∷ part "a waiting site with a sequence number past the limit" (site_is 2 (Waiting (number_limit + 1) false) 0 as_is) (Ask 2) 10
    ∷ part "a clock past N" (site_is 4 Rest 1 as_is) (Ask 2) 10
    ∷ part "a waiting site past N" (site_is 4 (Waiting 1 false) 0 as_is) (Ask 2) 10
    ∷ part "a site past N that is inside" (site_is 4 Inside 0 as_is) (Ask 2) 10
    ∷ part "a clock at the last place" (site_is site_limit Rest 1 as_is) (Ask 2) 10
    ∷ part "a grant number past the limit" (arbiter_is 2 (number_limit + 1) 0 0 as_is) (Ask 2) 10
    ∷ part "a grant number past N" (arbiter_is 4 1 0 0 as_is) (Ask 2) 10
    ∷ part "a grant number at the last place" (arbiter_is site_limit 1 0 0 as_is) (Ask 2) 10
    ∷ part "a holder's sequence number without a holder" (arbiter_is 2 0 0 1 as_is) (Ask 2) 10
    ∷ part "a holder with sequence number 0" (arbiter_is 2 0 1 0 as_is) (Ask 2) 10
    ∷ part "a holder with a sequence number past the limit" (arbiter_is 2 0 1 (number_limit + 1) as_is) (Ask 2) 10
    -- a holder's tie
    ∷ part "a holder" (arbiter_is 2 0 1 1 as_is) (Ask 2) 0
    ∷ part "a holder whose set lacks the arbiter" (arbiter_is 2 0 3 1 as_is) (Ask 2) 10
    ∷ part "a holder past N" (arbiter_is 2 0 4 1 as_is) (Ask 2) 10
    ∷ part "an arbiter past N with a holder" (arbiter_is 4 0 1 1 as_is) (Ask 2) 10
    -- a message's fields
    ∷ carrying "kind 0" (message 0 1 2 0 1) 10
    ∷ carrying "kind 8" (message 8 1 2 0 1) 10
    ∷ carrying "from 0" (reply 0 1 2 1) 10
    ∷ carrying "from N + 1" (reply 4 1 2 1) 10
    ∷ carrying "to 0" (request 1 0 1) 10
    ∷ carrying "to N + 1" (request 1 4 1) 10
    ∷ carrying "number 0" (request 1 2 0) 10
    ∷ carrying "a number at the limit" (request 1 2 number_limit) 0
    ∷ carrying "a number past the limit" (request 1 2 (number_limit + 1)) 10
    ∷ carrying "a reply with number 0" (reply 3 1 2 0) 10
    ∷ carrying "a reply with a number past the limit" (reply 3 1 2 (number_limit + 1)) 10
    ∷ carrying "a release with number 0" (release 1 2 0 0) 10
    ∷ carrying "an inquire with number 0" (inquire 2 1 0) 10
    ∷ carrying "a yield with number 0" (yield 1 2 0) 10
    ∷ carrying "a transfer with number 0" (transfer 2 1 1 0) 10
    ∷ carrying "a fail with number 0" (fail 2 1 0) 0
    ∷ carrying "a fail with number 5" (fail 2 1 5) 0
    ∷ carrying "a fail with a number at the limit" (fail 2 1 number_limit) 0
    ∷ carrying "a fail with a number past the limit" (fail 2 1 (number_limit + 1)) 10
    ∷ carrying "a request with about" (message REQUEST 1 2 1 1) 10
    ∷ carrying "an inquire with about" (message INQUIRE 2 1 1 1) 10
    ∷ carrying "a fail with about" (message FAIL 2 1 1 1) 10
    ∷ carrying "a yield with about" (message YIELD 1 2 1 1) 10
    -- whom it ties: site 1 to arbiter 2, and site 2 to arbiter 1, which is outside its set
    ∷ carrying "a request" (request 1 2 1) 0
    ∷ carrying "a request to a non-member" (request 2 1 1) 10
    ∷ carrying "a reply" (reply 3 1 2 1) 0
    ∷ carrying "a reply about an arbiter outside the receiver's set" (reply 1 2 1 1) 10
    ∷ carrying "a reply about no arbiter" (reply 1 1 0 1) 10
    ∷ carrying "a release" (release 1 2 0 1) 0
    ∷ carrying "a release to a non-member" (release 2 1 0 1) 10
    ∷ carrying "a release that names an heir" (release 1 2 1 1) 0
    ∷ carrying "a release that names an heir whose set lacks the arbiter" (release 1 2 3 1) 10
    ∷ carrying "a release that names an heir past N" (release 1 2 4 1) 10
    ∷ carrying "an inquire" (inquire 2 1 1) 0
    ∷ carrying "an inquire from an arbiter outside the set" (inquire 1 2 1) 10
    ∷ carrying "a fail" (fail 2 1 1) 0
    ∷ carrying "a fail from an arbiter outside the set" (fail 1 2 1) 10
    ∷ carrying "a yield" (yield 1 2 1) 0
    ∷ carrying "a yield to a non-member" (yield 2 1 1) 10
    ∷ carrying "a transfer" (transfer 2 1 1 1) 0
    ∷ carrying "a transfer from an arbiter outside the set" (transfer 1 2 1 1) 10
    ∷ carrying "a transfer that names an heir whose set lacks the arbiter" (transfer 2 1 3 1) 10
    ∷ carrying "a transfer that names an heir past N" (transfer 2 1 4 1) 10
    ∷ carrying "a transfer that names no heir" (transfer 2 1 0 1) 10
    -- 4, then 5, 6 and 7
    ∷ part "an ask" as_is (Ask 2) 0
    ∷ part "a delivery" as_is (Deliver 1 3) 0
    ∷ part "an ask by site 0" as_is (Ask 0) 4
    ∷ part "an ask by site N + 1" as_is (Ask 4) 4
    ∷ part "a leave by site 0, which is not inside" as_is (Leave 0) 4
    ∷ part "a leave by site N + 1, which is not inside" as_is (Leave 4) 4
    ∷ part "a delivery from site 0, with nothing under way" as_is (Deliver 0 2) 4
    ∷ part "a delivery from site N + 1, with nothing under way" as_is (Deliver 4 2) 4
    ∷ part "a delivery to site 0, with nothing under way" as_is (Deliver 1 0) 4
    ∷ part "a delivery to site N + 1, with nothing under way" as_is (Deliver 1 4) 4
    ∷ part "an ask by a waiting site" as_is (Ask 1) 5
    ∷ part "an ask by a site inside" (site_is 1 Inside 1 as_is) (Ask 1) 5
    ∷ part "a leave by a waiting site" as_is (Leave 1) 6
    ∷ part "a leave by a site at rest" as_is (Leave 2) 6
    ∷ part "a delivery with nothing under way" as_is (Deliver 2 1) 7
    -- then 9 for a number: a clock, a grant number with a reply, one without
    ∷ part "a clock one below the limit" (site_is 2 Rest (number_limit - 1) as_is) (Ask 2) 0
    ∷ part "a clock at the limit" (site_is 2 Rest number_limit as_is) (Ask 2) 9
    ∷ part "an ask by a waiting site with its clock at the limit" (site_is 1 (Waiting 1 false) number_limit as_is) (Ask 1) 5
    ∷ part "a grant one below the limit" (arbiter_is 2 (number_limit - 1) 0 0 as_is) (Deliver 1 2) 0
    ∷ part "a grant at the limit" (arbiter_is 2 number_limit 0 0 as_is) (Deliver 1 2) 9
    ∷ part "an heir takes over one below the limit" (arbiter_is 1 (number_limit - 1) 1 1 (carries (release 1 1 3 (number_limit - 1)) as_is)) (Deliver 1 1) 0
    ∷ part "an heir takes over at the limit" (arbiter_is 1 number_limit 1 1 (carries (release 1 1 3 number_limit) as_is)) (Deliver 1 1) 9
    -- last 8
    ∷ part "a full list, and two to send" (full as_is) (Ask 2) 8
    ∷ part "a full list, and two to send, no event left" (accepted_is event_limit (full as_is)) (Ask 2) 9
    ∷ part "a full list, and two to send, the clock at the limit" (site_is 2 Rest number_limit (full as_is)) (Ask 2) 9
    ∷ part "a full list, and an ask by a waiting site" (full as_is) (Ask 1) 5
    ∷ part "a full list, and a leave by a site at rest" (full as_is) (Leave 2) 6
    ∷ part "a full list, and a delivery with nothing under way" (full as_is) (Deliver 2 1) 7
    ∷ part "a full list, one to take off and one to send" (full as_is) (Deliver 1 2) 0
    ∷ part "a full list, one to take off and two to send" (list_is (request 3 1 1 ∷ many (message_limit - 1)) message_limit as_is) (Deliver 3 1) 8
    ∷ part "one place left, and two to send" (list_is (padded (many (message_limit - 1))) (message_limit - 1) as_is) (Ask 2) 8
    ∷ part "two places left, and two to send" (list_is (padded (many (message_limit - 2))) (message_limit - 2) as_is) (Ask 2) 0
    ∷ []

-- All events are accepted: 9, after 4 to 7

unfoldable pub spent_cases : List Partial
spent_cases =
    part "one event left" (accepted_is (event_limit - 1) as_is) (Ask 2) 0
    ∷ part "an ask, no event left" (accepted_is event_limit as_is) (Ask 2) 9
    ∷ part "an ask by site 0, no event left" (accepted_is event_limit as_is) (Ask 0) 4
    ∷ part "an ask by a waiting site, no event left" (accepted_is event_limit as_is) (Ask 1) 5
    ∷ part "a leave by a site at rest, no event left" (accepted_is event_limit as_is) (Leave 2) 6
    ∷ part "a delivery with nothing under way, no event left" (accepted_is event_limit as_is) (Deliver 2 1) 7
    ∷ []

unfoldable pub cases : List Case
cases = whole_cases ++ (map whole part_cases ++ map whole spent_cases)

-- What an event leaves of a state

abbrev pub Unchanged : Stored → Event → Type 0
Unchanged s e = (event s e).next ≡ s

-- refused with 10, and with 8
abbrev pub RefusalsChangeNothing : Type 0
RefusalsChangeNothing = Unchanged (heir_is 1 1 2 base) (Ask 2) × Unchanged (state_with (full as_is)) (Ask 2)

-- accepted on a list that had messages past its count: the messages, the two that site 2 sends, and zeros
abbrev pub ZerosPastTheCount : Type 0
ZerosPastTheCount =
    (event (state_with (list_is (base_messages ++ many (message_limit - 3)) 3 as_is)) (Ask 2)).next.list
    ≡ base_messages ++ (request 2 2 1 ∷ request 2 3 1 ∷ replicate (message_limit - 5) blank_message)
