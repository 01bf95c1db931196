-- A run of events, and demand 3 for it.
use Rattle.std.specs.Prelude.{ℕ, ◌+◌, ◌≤◌, ◌≡◌, Bool, not, ◌&&◌, ◌||◌, cond, List, [], ◌∷◌, ◌++◌, eqb, length}
use Rattle.rig.specs.declared.Rig.{Rig}
use Rattle.rig.specs.declared.Message.{Message}
use Rattle.rig.specs.declared.Event.{Event}
use Rattle.rig.specs.Limits.{message_limit, blank_tables}
use Rattle.rig.specs.Messages.{REPLY, RELEASE, YIELD}
use Rattle.basics.specs.Helpers.{count, tally}
use Rattle.model.specs.Setup.{setup_code}
use Rattle.model.specs.State.{Tables, size_of, mode_in, is_inside, is_waiting, arbiter_of, held_of, fresh_tables, Stored, stored, under_way}
use Rattle.model.specs.Event.{event}

-- "The run starts from the fresh state of sets that setup passes ... with nothing under way": whatever the lent list holds
unfoldable pub fresh : ℕ → List ℕ → List Message → Stored
fresh n sets list = record { tables = fresh_tables n sets; list = list; count = 0 }

-- "each later one the state and the list under way that the one before it left; a refused one hands on what it got"
unfoldable pub run : Stored → List Event → Stored
run s [] = s
run s (e ∷ es) = run (event s e).next es

-- a state of a run of sets that setup passes
pub record OfRun (s : Stored) : Type 0 where
  pub size : ℕ
  pub sets : List ℕ
  pub list : List Message
  pub events : List Event
  pub passed : setup_code size sets ≡ 0
  pub same : s ≡ run (fresh size sets list) events

-- The rig starts a run of these sets: beside blank tables, with any list and nothing under way, it is their fresh state.
abbrev pub StartsRun : ℕ → List ℕ → Rig → Type 0
StartsRun n sets g = (list : List Message) → (stored g blank_tables list 0 ≡ fresh n sets list) × OfRun (stored g blank_tables list 0)

-- such a state on a list of 1,024 entries: no event on it is refused with 13 or 10
pub record InRun (s : Stored) : Type 0 where
  pub run : OfRun s
  pub long : length s.list ≡ message_limit

-- a property of every state of every run of sets that setup passes
abbrev pub Always : (Stored → Type 0) → Type 0
Always P =
    (n : ℕ) (sets : List ℕ) (list : List Message) (es : List Event) →
    setup_code n sets ≡ 0 → P (run (fresh n sets list) es)

-- "Places of arbiter j's permission, counted together: free, if j has no holder;"
unfoldable pub free_at : Tables → ℕ → ℕ
free_at t j = cond (eqb (arbiter_of t j).holder 0) 1 0

-- "travelling out, each reply about j under way;"
unfoldable pub is_out : ℕ → Message → Bool
is_out j m = eqb m.kind REPLY && eqb m.about j

-- "held, each site with a number held for j;"
unfoldable pub held_at : Tables → ℕ → ℕ
held_at t j = count (λ k. not (eqb (held_of t k j) 0)) (size_of t)

-- "travelling back, each yield to j and each release to j with about 0 under way. A release naming an heir carries none."
unfoldable pub is_back : ℕ → Message → Bool
is_back j m = (eqb m.kind YIELD || (eqb m.kind RELEASE && eqb m.about 0)) && eqb m.to j

unfoldable pub places : Stored → ℕ → ℕ
places s j = free_at s.tables j + tally (is_out j) (under_way s) + held_at s.tables j + tally (is_back j) (under_way s)

-- how many sites are inside, and how many wait
unfoldable pub inside_count : Rig → ℕ
inside_count g = count (λ k. is_inside (mode_in g k)) g.size

unfoldable pub waiting_count : Rig → ℕ
waiting_count g = count (λ k. is_waiting (mode_in g k)) g.size

-- "A rig is stuck if no message is under way, no site is inside and a site is waiting."
unfoldable pub stuck : Stored → Bool
stuck s = eqb s.count 0 && (eqb (inside_count s.tables.rig) 0 && not (eqb (waiting_count s.tables.rig) 0))

-- Demand 3 of a state, in the words of the demand itself, which stands beside document 01: "at most one site inside, each arbiter's
-- permission in exactly one place, and no stuck rig"
pub record Sound (s : Stored) : Type 0 where
  pub exclusion : inside_count s.tables.rig ≤ 1
  pub one_place : (j : ℕ) → 1 ≤ j → j ≤ size_of s.tables → places s j ≡ 1
  pub not_stuck : stuck s ≡ Bool.false

-- Where s is a state of a run, t is the next state of the same run, after the event e, and demand 3 holds of it.
abbrev pub KeepsRun : Stored → Event → Stored → Type 0
KeepsRun s e t = (r : OfRun s) → (t ≡ run (fresh r.size r.sets r.list) (r.events ++ e ∷ [])) × OfRun t × Sound t

-- Demand 3, in its own words: "For EVERY family that setup passes and EVERY list of asks, leaves and deliveries, refused ones included";
-- in those of document 01: "A run without events counts too." The lent list is any list: where it is not 1,024 entries long, every event
-- is refused with 13.
unfoldable pub Demand3 : Type 0
Demand3 = Always Sound
