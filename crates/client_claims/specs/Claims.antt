-- What the claims about runs and about texts say of single sites, events and cuts.
use Rattle.std.specs.Prelude.{ℕ, ◌*◌, ◌≤◌, ◌≡◌, ◌⊎◌, ◌≢◌, true, List, [], ◌∷◌, ◌++◌, length}
use Rattle.std.proofs.Math.Option.{some}
use Rattle.rig.specs.declared.Event.{Event}
use Rattle.rig.specs.declared.Event.TheVariants.{Ask, Deliver}
use Rattle.rig.specs.declared.Message.{Message}
use Rattle.rig.specs.Limits.{message_limit, event_limit}
use Rattle.rig.specs.Messages.{REPLY, FAIL}
use Rattle.basics.specs.Helpers.{tally, first, All}
use Rattle.model.specs.Setup.{setup_code}
use Rattle.model.specs.State.{Stored, under_way, in_range, seq_in, site_of, mode_of, arbiter_of, held_of, desk_of}
use Rattle.model.specs.Site.{takes}
use Rattle.model.specs.Deliver.{between}
use Rattle.model.specs.Event.{event}
use Rattle.model.specs.Run.{fresh, run, inside_count, waiting_count, Always}
use Rattle.model.specs.Fails.{AsksWith}
use Rattle.model.specs.Settling.{is_delivery, is_turn, accepted_of, measure_limit, only_limits}
use Rattle.player_text.specs.Player.{start, output}
use Rattle.player_parts.specs.Parts.{written}

-- one of the sites of a rig
abbrev pub IsSite : Stored → ℕ → Type 0
IsSite s k = in_range s.tables.rig.size k ≡ true

-- two sites that hold the permission of an arbiter are one site
unfoldable pub OneHolder : Type 0
OneHolder =
    Always (λ s. (j k l : ℕ) → IsSite s j → IsSite s k → IsSite s l →
    held_of s.tables k j ≢ 0 → held_of s.tables l j ≢ 0 → k ≡ l)

-- on a list of 1,024 entries no event of a run gets 10 or 13, and one gets 9 only once 1,000,000 events were accepted
unfoldable pub CodesOfRuns : Type 0
CodesOfRuns =
    (n : ℕ) (sets : List ℕ) (list : List Message) (es : List Event) → setup_code n sets ≡ 0 → length list ≡ message_limit → (e : Event) →
    ((event (run (fresh n sets list) es) e).code ≢ 10)
    × ((event (run (fresh n sets list) es) e).code ≢ 13)
    × ((event (run (fresh n sets list) es) e).code ≡ 9 → (run (fresh n sets list) es).tables.rig.accepted ≡ event_limit)

-- no site's clock and no arbiter's grant number passes twice the accepted events
unfoldable pub NumbersOfRuns : Type 0
NumbersOfRuns =
    Always (λ s. (k : ℕ) →
    ((site_of s.tables k).clock ≤ 2 * s.tables.rig.accepted)
    × ((arbiter_of s.tables k).grant ≤ 2 * s.tables.rig.accepted))

-- a reply that is the first message under way is taken by its receiver
unfoldable pub ReplyTaken : Type 0
ReplyTaken =
    Always (λ s. (m : Message) (ms : List Message) → under_way s ≡ m ∷ ms → m.kind ≡ REPLY →
    takes (desk_of s.tables m.to) m.about ≡ true)

-- After the events ds from the state s at most 10,051 deliveries were accepted; with nothing left under way a site is inside or none waits; else the
-- delivery of a message under way is accepted, or refused for a limit alone.
pub record Serves (s : Stored) (ds : List Event) : Type 0 where
  pub few : accepted_of is_delivery s ds ≤ measure_limit
  pub settled : (run s ds).count ≡ 0 → (inside_count (run s ds).tables.rig ≢ 0) ⊎ (waiting_count (run s ds).tables.rig ≡ 0)
  pub goes : (a b : ℕ) → tally (between a b) (under_way (run s ds)) ≢ 0 → only_limits (event (run s ds) (Deliver a b)).code ≡ true

-- so it is after deliveries alone, from a state of a run on a list of 1,024 entries
unfoldable pub DeliveriesServe : Type 0
DeliveriesServe =
    (n : ℕ) (sets : List ℕ) (list : List Message) (es ds : List Event) → setup_code n sets ≡ 0 → length list ≡ message_limit →
    tally is_turn ds ≡ 0 → Serves (run (fresh n sets list) es) ds

-- no fail of a run is numbered 0
unfoldable pub FailsGiven : Type 0
FailsGiven = Always (λ s. All (λ m. m.kind ≡ FAIL → 1 ≤ m.number) (under_way s))

-- a fail for an ask that is over leaves its site's mode: a later ask, its number and its failed mark
unfoldable pub LaterAskKept : Type 0
LaterAskKept =
    (n : ℕ) (sets : List ℕ) (list : List Message) (earlier es later : List Event) (k x : ℕ) → setup_code n sets ≡ 0 →
    AsksWith (fresh n sets list) earlier k x → seq_in (mode_of (run (fresh n sets list) (earlier ++ Ask k ∷ es)).tables k) ≡ 0 →
    (a : ℕ) (m : Message) →
    let s = run (fresh n sets list) (earlier ++ Ask k ∷ (es ++ later)) in
    first (between a k) (under_way s) ≡ some m → m.kind ≡ FAIL → m.number ≡ x → (event s (Deliver a k)).code ≡ 0 →
    mode_of (event s (Deliver a k)).next.tables k ≡ mode_of s.tables k

-- a text cut once prints what the whole text prints
unfoldable pub CutOnce : Type 0
CutOnce = (a b : List ℕ) → written start [] (a ∷ b ∷ []) ≡ output (a ++ b)
