-- What else holds of every state of a run, beside demand 3.
use Rattle.std.specs.Prelude.{ℕ, ◌*◌, ◌≤◌, ◌≡◌, ◌≢◌, Bool, true, ◌&&◌, ◌||◌, cond, List, [], ◌∷◌, eqb, length}
use Rattle.rig.specs.declared.Event.{Event}
use Rattle.rig.specs.declared.Message.{Message}
use Rattle.rig.specs.Limits.{message_limit, event_limit}
use Rattle.rig.specs.Messages.{REPLY, RELEASE, YIELD}
use Rattle.model.specs.State.{Tables, Stored, under_way, seq_in, site_of, mode_of, arbiter_of, held_of, inquired_of, queued_of, desk_of}
use Rattle.model.specs.Arbiter.{from_holder, is_early}
use Rattle.model.specs.Site.{takes}
use Rattle.model.specs.Shape.{well_shaped}
use Rattle.model.specs.Event.{numbers_up_to, event}
use Rattle.model.specs.Run.{fresh, run, Always}

-- Every state of a run is well shaped, and no event of a run is refused with 10,
unfoldable pub AlwaysShaped : Type 0
AlwaysShaped = Always (λ s. (well_shaped s ≡ true) × ((e : Event) → (event s e).code ≢ 10))

-- nor with 13, where the lent list is 1,024 entries long at the start.
unfoldable pub AlwaysLong : Type 0
AlwaysLong =
    (n : ℕ) (sets : List ℕ) (list : List Message) (es : List Event) →
    length list ≡ message_limit → (e : Event) → (event (run (fresh n sets list) es) e).code ≢ 13

-- every clock, sequence and grant number is at most b
pub record NumbersWithin (b : ℕ) (s : Stored) : Type 0 where
  pub clock : (k : ℕ) → (site_of s.tables k).clock ≤ b
  pub seq : (k : ℕ) → seq_in (mode_of s.tables k) ≤ b
  pub grant : (j : ℕ) → (arbiter_of s.tables j).grant ≤ b
  pub holder_seq : (j : ℕ) → (arbiter_of s.tables j).seq ≤ b
  pub held : (k j : ℕ) → held_of s.tables k j ≤ b
  pub inquired : (k j : ℕ) → inquired_of s.tables k j ≤ b
  pub queued : (j k : ℕ) → queued_of s.tables j k ≤ b
  pub messages : numbers_up_to b (under_way s) ≡ true

-- No clock, sequence or grant number of a run passes twice the accepted events,
unfoldable pub NumbersSmall : Type 0
NumbersSmall = Always (λ s. NumbersWithin (2 * s.tables.rig.accepted) s)

-- so 9 comes only from the count of events.
unfoldable pub NineByCount : Type 0
NineByCount = Always (λ s. (e : Event) → (event s e).code ≡ 9 → s.tables.rig.accepted ≡ event_limit)

-- a reply, a yield or a plain release fits its rule at its receiver: it is not taken off without effect
unfoldable pub fits_rule : Tables → Message → Bool
fits_rule t m =
    cond (eqb m.kind REPLY) (takes (desk_of t m.to) m.about)
    (cond (eqb m.kind YIELD) (from_holder (desk_of t m.to) m.from m.number)
    (cond (eqb m.kind RELEASE && eqb m.about 0)
    (from_holder (desk_of t m.to) m.from m.number || is_early (desk_of t m.to) m.from 0 m.number)
    true))

unfoldable pub all_fit : Tables → List Message → Bool
all_fit t [] = true
all_fit t (m ∷ ms) = fits_rule t m && all_fit t ms

-- A reply, yield or plain release under way always fits.
unfoldable pub NeverStray : Type 0
NeverStray = Always (λ s. all_fit s.tables (under_way s) ≡ true)
