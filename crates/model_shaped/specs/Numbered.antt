-- Request 2.3: "From this version a fail carries the sequence number of the ask it is about." No fail that is sent is numbered 0, also from a state that no run
-- reaches: only a saved text brings one, or a list that a caller lends.
use Rattle.std.specs.Prelude.{ℕ, ◌≡◌, Bool, true, false, ◌&&◌, List, [], eqb, length}
use Rattle.basics.specs.Helpers.{All}
use Rattle.rig.specs.declared.Event.{Event}
use Rattle.rig.specs.declared.Message.{Message}
use Rattle.rig.specs.Limits.{site_limit, SiteNumber}
use Rattle.rig.specs.Messages.{FAIL}
use Rattle.model.specs.Tables.{at}
use Rattle.model.specs.State.{Tables, Stored}
use Rattle.model.specs.Shape.{well_shaped}
use Rattle.model.specs.Desk.{Effect}
use Rattle.model.specs.Event.{possible, attempt_on}

-- a fail numbered 0
unfoldable pub is_numberless : Message → Bool
is_numberless m = eqb m.kind FAIL && eqb m.number 0

-- the numbers queued are in rows of 31, as the code has them
abbrev pub QueueRows : Tables → Type 0
QueueRows t = (j : ℕ) → SiteNumber j → length (at [] t.queued j) ≡ site_limit

-- No fail that an event sends is numbered 0.
unfoldable pub FailsNumbered : Type 0
FailsNumbered =
    (s : Stored) (e : Event) → well_shaped s ≡ true → QueueRows s.tables →
    (f : Effect) (rest : List Message) → attempt_on s e ≡ possible f rest → All (λ m. is_numberless m ≡ false) f.sent
