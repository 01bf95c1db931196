-- Document 01 without requests 2.3 and 2.6: what the version before request 2.3 says otherwise, each definition under its sentence, and what is made with
-- it. All else is that of `model`. A name that both versions have is this module's own here.
use Rattle.std.specs.Prelude.{ℕ, Bool, true, not, ◌&&◌, cond, List, [], ◌∷◌, ◌++◌, eqb, leb, length}
use Rattle.std.proofs.Math.Option.{Option, none, some}
use Rattle.basics.specs.Helpers.{all, first, without_first}
use Rattle.rig.specs.declared.Rig.{Rig}
use Rattle.rig.specs.declared.Desk.{Desk}
use Rattle.rig.specs.declared.Message.{Message}
use Rattle.rig.specs.declared.Event.{Event}
use Rattle.rig.specs.declared.Event.TheVariants.{Ask, Leave, Deliver}
use Rattle.rig.specs.Limits.{site_limit, message_limit, event_limit}
use Rattle.rig.specs.Messages.{REQUEST, REPLY, RELEASE, INQUIRE, FAIL, YIELD, TRANSFER, fail}
use Rattle.model.specs.Setup.{meeting_code}
use Rattle.model.specs.State.{Tables, Stored, under_way, size_of, sets_of, in_range, is_resting, is_inside, desk_of}
use Rattle.model.specs.Desk.{Effect, effect, waits}
use Rattle.model.specs.Priority.{comes_before}
use Rattle.model.specs.Ask.{asked}
use Rattle.model.specs.Leave.{left}
use Rattle.model.specs.Arbiter.{holder_of, holder_key, site_key, head_of, with_queued, transfer_of, inquire_of, granted, clock_raised, former_told, on_release, on_yield}
use Rattle.model.specs.Site.{failed_set, yielded_up_to, on_reply, on_inquire, on_transfer}
use Rattle.model.specs.Deliver.{between}
use Rattle.model.specs.Shape.{is_given, place_shaped, own_shaped, heir_shaped, queued_shaped, everywhere, about_shaped}
use Rattle.model.specs.Event.{actor, sites_named, Attempt, refused, possible, Outcome, judged, Answer, answer, settled}

-- "`number` is 0 in a fail"
abbrev pub fail_to : Desk → ℕ → Message
fail_to d k = fail d.number k 0

-- "fail to the former head (before k was queued), if there was one other than k and it comes before the holder"
unfoldable pub fail_former : Desk → ℕ → ℕ → List Message
fail_former d k former = cond (former_told d k former) (fail_to d former ∷ []) []

-- "then inquire to the holder if k comes before it, else fail to k"
unfoldable pub inquire_or_fail : Desk → ℕ → Message
inquire_or_fail d k = cond (comes_before (site_key d k) (holder_key d)) (inquire_of d) (fail_to d k)

-- "If k isn't the head: fail to k. If it is: fail to the former head ...; transfer naming k to the holder; then inquire ...":
-- k has been queued, former was the head before
unfoldable pub answers : Desk → ℕ → ℕ → List Message
answers d k former =
    cond (eqb (head_of d) k)
    (fail_former d k former ++ (transfer_of d k ∷ inquire_or_fail d k ∷ []))
    (fail_to d k ∷ [])

-- "Otherwise k is queued."
unfoldable pub queued_up : Desk → ℕ → ℕ → Effect
queued_up d k n = let u = with_queued d k n in effect u (answers u k (head_of d))

-- "Request from k: ... If arbiter b has no holder, it grants k. Otherwise k is queued."
unfoldable pub on_request : Desk → ℕ → ℕ → Effect
on_request d k n =
    let u = clock_raised d n in
    cond (eqb (holder_of u) 0) (granted u k n) (queued_up u k n)

-- "Fail to a waiting site: failed is set; every held member with a remembered inquire is yielded, ascending."
unfoldable pub on_fail : Desk → Effect
on_fail d = cond (waits d) (yielded_up_to (failed_set d) d.size) (effect d [])

-- what the receiver does with a message, each kind by its rule; "A message that fits no rule is taken off and does nothing else."
unfoldable pub delivered : Desk → Message → Effect
delivered d m =
    cond (eqb m.kind REQUEST) (on_request d m.from m.number)
    (cond (eqb m.kind REPLY) (on_reply d m.about m.number)
    (cond (eqb m.kind RELEASE) (on_release d m.from m.about m.number)
    (cond (eqb m.kind INQUIRE) (on_inquire d m.from m.number)
    (cond (eqb m.kind FAIL) (on_fail d)
    (cond (eqb m.kind YIELD) (on_yield d m.from m.number)
    (cond (eqb m.kind TRANSFER) (on_transfer d m.from m.about m.number)
    (effect d [])))))))

-- "`number` is 0 in a fail, else at least 1"
unfoldable pub number_shaped : Message → Bool
number_shaped m = cond (eqb m.kind FAIL) (eqb m.number 0) (is_given m.number)

unfoldable pub message_shaped : ℕ → List ℕ → Message → Bool
message_shaped n sets m = in_range n m.from && (in_range n m.to && (number_shaped m && about_shaped sets m))

unfoldable pub messages_shaped : ℕ → List ℕ → List Message → Bool
messages_shaped n sets [] = true
messages_shaped n sets (m ∷ ms) = message_shaped n sets m && messages_shaped n sets ms

-- "sets that setup would refuse": setup without 17
unfoldable pub rig_shaped : Rig → Bool
rig_shaped g = eqb (meeting_code g.size g.sets) 0 && (leb g.accepted event_limit && all (place_shaped g) site_limit)

unfoldable pub tables_shaped : Tables → Bool
tables_shaped t =
    rig_shaped t.rig
    && (everywhere (own_shaped (sets_of t)) t.held
    && (everywhere (heir_shaped (sets_of t)) t.heir
    && (everywhere (own_shaped (sets_of t)) t.inquired
    && everywhere (queued_shaped (sets_of t)) t.queued)))

-- the whole state; "Messages under way: at most 1,024"
unfoldable pub well_shaped : Stored → Bool
well_shaped s =
    leb s.count message_limit
    && (tables_shaped s.tables && messages_shaped (size_of s.tables) (sets_of s.tables) (under_way s))

-- "The first message from a to b is taken off"; "7 for a delivery where nothing is under way from a to b"
unfoldable pub taken_off : Desk → Option Message → List Message → Attempt
taken_off d none rest = refused 7
taken_off d (some m) rest = possible (delivered d m) rest

-- "Then 5 for an ask by a site not at rest, 6 for a leave by one not inside"
unfoldable pub attempt : Desk → List Message → Event → Attempt
attempt d ms (Ask s) = cond (is_resting d.site.mode) (possible (asked d) ms) (refused 5)
attempt d ms (Leave s) = cond (is_inside d.site.mode) (possible (left d) ms) (refused 6)
attempt d ms (Deliver a b) = taken_off d (first (between a b) ms) (without_first (between a b) ms)

-- "4 if a named site is outside 1 to N. Then ..."
unfoldable pub attempted : Desk → List Message → Event → Attempt
attempted d ms e = cond (not (sites_named d.size e)) (refused 4) (attempt d ms e)

-- one event at its site, which has the desk d
unfoldable pub event_at : ℕ → Desk → List Message → Event → Outcome
event_at accepted d ms e = judged accepted d ms (attempted d ms e)

-- an event on a state that has passed the tests of its list and its shape
unfoldable pub played : Stored → Event → Answer
played s e = settled s (actor e) (event_at s.tables.rig.accepted (desk_of s.tables (actor e)) (under_way s) e)

-- "10 if the state is misshapen ... 4 if a named site is outside 1 to N. Then ..."
unfoldable pub tested : Stored → Event → Answer
tested s e = cond (not (well_shaped s)) (answer 10 s) (played s e)

-- "An event. 13 first if a lent list of messages is not 1,024 entries long"
unfoldable pub event : Stored → Event → Answer
event s e = cond (not (eqb (length s.list) message_limit)) (answer 13 s) (tested s e)

-- "each later one the state and the list under way that the one before it left; a refused one hands on what it got"
unfoldable pub run : Stored → List Event → Stored
run s [] = s
run s (e ∷ es) = run (event s e).next es
