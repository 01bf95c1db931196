-- When a well-shaped state stays well-shaped, also one that no run reaches: a state may come from a saved text.
use Rattle.std.specs.Prelude.{ℕ, ◌≡◌, Bool, true, false, ◌||◌, [], ◌∷◌, eqb, leb, length, replicate}
use Rattle.basics.specs.Helpers.{all}
use Rattle.rig.specs.declared.Rig.{Rig}
use Rattle.rig.specs.declared.Arbiter.{Arbiter}
use Rattle.rig.specs.declared.Event.{Event}
use Rattle.rig.specs.declared.Event.TheVariants.{Deliver}
use Rattle.rig.specs.Limits.{site_limit, message_limit, blank_table, SiteNumber}
use Rattle.rig.specs.Messages.{request}
use Rattle.model.specs.Tables.{at, put}
use Rattle.model.specs.Setup.{free_arbiter, resting_rig}
use Rattle.model.specs.State.{Tables, Stored, arbiter_of}
use Rattle.model.specs.Shape.{well_shaped}
use Rattle.model.specs.Event.{actor, padded, event}
use Rattle.model.specs.Run.{InRun}

-- An arbiter that has a holder has granted: its grant number is at least 1. Document 01 does not ask this of a state.
unfoldable pub has_granted : Arbiter → Bool
has_granted a = eqb a.holder 0 || leb 1 a.grant

unfoldable pub all_granted : Rig → Bool
all_granted g = all (λ j. has_granted (at free_arbiter g.arbiters j)) site_limit

-- the numbers held are in rows of 31, as the code has them
abbrev pub HeldRows : Tables → Type 0
HeldRows t = (k : ℕ) → SiteNumber k → length (at [] t.held k) ≡ site_limit

-- One event: the next state is well shaped where the arbiter at the event's site has granted.
unfoldable pub ShapeKeptAt : Type 0
ShapeKeptAt = (s : Stored) (e : Event) → well_shaped s ≡ true → HeldRows s.tables → has_granted (arbiter_of s.tables (actor e)) ≡ true → well_shaped (event s e).next ≡ true

-- Every arbiter has granted, and the list is 1,024 entries long: no event on this state, or on any that follows, is refused with 13 or 10.
pub record Playable (s : Stored) : Type 0 where
  pub shaped : well_shaped s ≡ true
  pub granted : all_granted s.tables.rig ≡ true
  pub rows : HeldRows s.tables
  pub long : length s.list ≡ message_limit

unfoldable pub ShapeKept : Type 0
ShapeKept = (s : Stored) (e : Event) → Playable s → Playable (event s e).next

-- every state of a run on such a list is one
unfoldable pub RunsPlayable : Type 0
RunsPlayable = (s : Stored) → InRun s → Playable s

-- Why an arbiter with a holder must have granted: arbiter 1 has holder 1 and grant number 0, and a second request is under way to it.
unfoldable pub not_granted : Stored
not_granted =
    let rig = resting_rig 1 (1 ∷ replicate 30 0) in
    record {
      tables = record {
        rig = record { size = 1; sets = rig.sets; sites = rig.sites; arbiters = put rig.arbiters 1 (record { grant = 0; holder = 1; seq = 1 }); accepted = 0 };
        held = blank_table;
        heir = blank_table;
        inquired = blank_table;
        queued = blank_table;
      };
      list = padded (request 1 1 1 ∷ []);
      count = 1;
    }

-- That state is well shaped, and the delivery is accepted; it sends a transfer with number 0, so that the next state is misshapen.
unfoldable pub ShapeLost : Type 0
ShapeLost = (well_shaped not_granted ≡ true) × ((event not_granted (Deliver 1 1)).code ≡ 0) × (well_shaped (event not_granted (Deliver 1 1)).next ≡ false)
