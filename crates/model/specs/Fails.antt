-- Request 2.3, what the operators asked for: "an old fail marks the new ask" no more. Of every run from a fresh state.
use Rattle.std.specs.Prelude.{ℕ, ◌+◌, ◌≡◌, List, ◌∷◌, ◌++◌, length}
use Rattle.std.proofs.Math.Option.{some}
use Rattle.basics.specs.Helpers.{first, without_first, All}
use Rattle.rig.specs.declared.Event.{Event}
use Rattle.rig.specs.declared.Event.TheVariants.{Ask, Deliver}
use Rattle.rig.specs.declared.Message.{Message}
use Rattle.rig.specs.Messages.{FAIL}
use Rattle.model.specs.Setup.{setup_code}
use Rattle.model.specs.State.{Stored, under_way, with_accepted, site_of, mode_of, seq_in}
use Rattle.model.specs.Deliver.{between}
use Rattle.model.specs.Event.{padded, event}
use Rattle.model.specs.Run.{fresh, run}

-- Once the events es have happened, site k asks, with the sequence number n: "Clock and sequence number become clock + 1"
pub record AsksWith (s : Stored) (es : List Event) (k n : ℕ) : Type 0 where
  pub accepted : (event (run s es) (Ask k)).code ≡ 0
  pub number : (site_of (run s es).tables k).clock + 1 ≡ n

-- such an ask is one of the events
pub record Made (s : Stored) (es : List Event) (k n : ℕ) : Type 0 where
  pub earlier : List Event
  pub later : List Event
  pub whole : es ≡ earlier ++ Ask k ∷ later
  pub asks : AsksWith s earlier k n

-- "a fail carries the sequence number of the ask it is about": every fail under way has the number of an ask that its receiver has made.
unfoldable pub FailsName : Type 0
FailsName =
    (n : ℕ) (sets : List ℕ) (list : List Message) (es : List Event) → setup_code n sets ≡ 0 →
    All (λ m. m.kind ≡ FAIL → Made (fresh n sets list) es m.to m.number) (under_way (run (fresh n sets list) es))

-- the state once the first message from a to b is off the list, and nothing else has changed but the count of events
unfoldable pub only_taken_off : Stored → ℕ → ℕ → Stored
only_taken_off s a b =
    let rest = without_first (between a b) (under_way s) in
    record { tables = with_accepted s.tables (s.tables.rig.accepted + 1); list = padded rest; count = length rest }

-- Site k has asked with number x, and waits no more. Whatever happens from then on, further asks too: a fail for that ask that is delivered to k changes nothing.
unfoldable pub OldFailsIdle : Type 0
OldFailsIdle =
    (n : ℕ) (sets : List ℕ) (list : List Message) (earlier es later : List Event) (k x : ℕ) → setup_code n sets ≡ 0 →
    AsksWith (fresh n sets list) earlier k x →
    seq_in (mode_of (run (fresh n sets list) (earlier ++ Ask k ∷ es)).tables k) ≡ 0 →
    (a : ℕ) (m : Message) →
    let s = run (fresh n sets list) (earlier ++ Ask k ∷ (es ++ later)) in
    first (between a k) (under_way s) ≡ some m → m.kind ≡ FAIL → m.number ≡ x →
    (event s (Deliver a k)).code ≡ 0 → (event s (Deliver a k)).next ≡ only_taken_off s a k
