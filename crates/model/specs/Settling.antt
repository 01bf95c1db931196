-- No rig exchanges messages for ever: each message has a weight, and every accepted delivery makes the sum of the weights smaller.
use Rattle.std.specs.Prelude.{ℕ, zero, suc, ◌+◌, ◌*◌, ◌≤◌, ◌≡◌, ◌⊎◌, ◌≢◌, Bool, true, false, not, ◌&&◌, ◌||◌, cond, List, [], ◌∷◌, eqb, length}
use Rattle.rig.specs.declared.Event.{Event}
use Rattle.rig.specs.declared.Event.TheVariants.{Ask, Leave, Deliver}
use Rattle.rig.specs.declared.Message.{Message}
use Rattle.rig.specs.Limits.{site_limit, message_limit}
use Rattle.rig.specs.Messages.{REQUEST, RELEASE, INQUIRE, YIELD}
use Rattle.basics.specs.Helpers.{count, tally}
use Rattle.model.specs.Tables.{at}
use Rattle.model.specs.State.{Tables, Stored, under_way}
use Rattle.model.specs.Deliver.{between}
use Rattle.model.specs.Shape.{well_shaped}
use Rattle.model.specs.Event.{event}
use Rattle.model.specs.Run.{fresh, run, inside_count, waiting_count, Always}

-- The weights

-- the heaviest message is a request
abbrev pub weight_limit : ℕ
weight_limit = 7

-- an inquire that a site remembers weighs as much as the yield that it may become
abbrev pub remembered_weight : ℕ
remembered_weight = 3

-- a message weighs more than its delivery can add to the rest of the sum; a release with an heir adds more than a plain one
unfoldable pub weight : Message → ℕ
weight m =
    cond (eqb m.kind REQUEST) weight_limit
    (cond (eqb m.kind RELEASE) (cond (eqb m.about 0) 3 6)
    (cond (eqb m.kind INQUIRE) 4
    (cond (eqb m.kind YIELD) 3
    1)))

unfoldable pub weights : List Message → ℕ
weights [] = 0
weights (m ∷ ms) = weight m + weights ms

-- how many inquires a row of the table `inquired` remembers: its entries that are not 0
unfoldable pub remembered_in : List ℕ → ℕ
remembered_in row = count (λ j. not (eqb (at 0 row j) 0)) site_limit

-- those of the sites 1 to n
unfoldable pub remembered_up_to : List (List ℕ) → ℕ → ℕ
remembered_up_to table zero = 0
remembered_up_to table (suc i) = remembered_up_to table i + remembered_in (at [] table (suc i))

unfoldable pub remembered_count : Tables → ℕ
remembered_count t = remembered_up_to t.inquired site_limit

-- the sum for a state: the messages under way, and the inquires remembered
unfoldable pub measure : Stored → ℕ
measure s = weights (under_way s) + remembered_weight * remembered_count s.tables

-- The claims

-- the most that an ask or a leave adds: for each member a request, or a reply and a release with an heir
abbrev pub turn_weight : ℕ
turn_weight = weight_limit * site_limit

abbrev pub is_delivery : Event → Bool
is_delivery (Ask s) = false
is_delivery (Leave s) = false
is_delivery (Deliver a b) = true

-- an ask or a leave
abbrev pub is_turn : Event → Bool
is_turn e = not (is_delivery e)

-- how many of the events that pass a test are accepted, all played one after another
unfoldable pub accepted_of : (Event → Bool) → Stored → List Event → ℕ
accepted_of p s [] = 0
accepted_of p s (e ∷ es) = cond (p e && eqb (event s e).code 0) 1 0 + accepted_of p (event s e).next es

-- Every accepted delivery makes the sum smaller by at least 1, and an accepted ask or leave adds at most 217, whatever the state and the
-- events.
unfoldable pub Settles : Type 0
Settles = (s : Stored) (es : List Event) → accepted_of is_delivery s es + measure (run s es) ≤ measure s + turn_weight * accepted_of is_turn s es

-- So a list without ask or leave has no more accepted deliveries than the sum at its start,
unfoldable pub DeliveriesEnd : Type 0
DeliveriesEnd = (s : Stored) (es : List Event) → tally is_turn es ≡ 0 → accepted_of is_delivery s es + measure (run s es) ≤ measure s

-- and a run has at most 217 accepted deliveries for each accepted ask or leave.
unfoldable pub DeliveriesFew : Type 0
DeliveriesFew =
    (n : ℕ) (sets : List ℕ) (list : List Message) (es : List Event) →
    accepted_of is_delivery (fresh n sets list) es ≤ turn_weight * accepted_of is_turn (fresh n sets list) es

-- the largest sum: 1,024 requests under way and 31 times 31 inquires remembered, 10,051
abbrev pub measure_limit : ℕ
measure_limit = weight_limit * message_limit + remembered_weight * (site_limit * site_limit)

-- No well-shaped state has a larger one,
unfoldable pub MeasureBounded : Type 0
MeasureBounded = (s : Stored) → well_shaped s ≡ true → measure s ≤ measure_limit

-- and one has just this.
unfoldable pub MeasureReached : Type 0
MeasureReached = (s : Stored) × (well_shaped s ≡ true) × (measure s ≡ measure_limit)

-- accepted, or refused for a limit alone
unfoldable pub only_limits : ℕ → Bool
only_limits code = eqb code 0 || (eqb code 8 || eqb code 9)

-- While a message is under way from a to b its delivery is accepted, unless a limit is reached.
unfoldable pub Deliverable : Type 0
Deliverable =
    (s : Stored) → well_shaped s ≡ true → length s.list ≡ message_limit →
    (a b : ℕ) → tally (between a b) (under_way s) ≢ 0 → only_limits (event s (Deliver a b)).code ≡ true

-- Once nothing is under way in a state of a run, some site is inside or none waits.
unfoldable pub SettledServes : Type 0
SettledServes = Always (λ s. s.count ≡ 0 → (inside_count s.tables.rig ≢ 0) ⊎ (waiting_count s.tables.rig ≡ 0))
