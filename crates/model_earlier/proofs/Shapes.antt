-- The test of a state's shape in both versions, and what it says of the numbers from which a fail's is taken.
use Prim.Native.Nat.{ℕ, zero, suc, ◌≤◌}
use mathlib.Core.Path.{◌≡◌, refl, sym, ap, ◌∙◌}
use mathlib.Core.Bool.{true}
use mathlib.Core.List.{List, [], ◌∷◌}
use native.Mathlib.Omega.{arith}
use lib.Dec.{eqb, leb}
use borrow.Author.Tests.{eqb-true, leb-true}
use Rattle.basics.specs.Helpers.{All}
use Rattle.basics.proofs.Basics.{by_bool, and_split}
use Rattle.rig.specs.declared.Message.{Message}
use Rattle.rig.specs.Limits.{site_limit, message_limit, number_limit}
use Rattle.rig.specs.Messages.{REQUEST, FAIL}
use Rattle.model.specs.Tables.{at, cell}
use Rattle.model.specs.Setup.{all_minimal, meeting_code, setup_code}
use Rattle.model.specs.State.{Stored, under_way, size_of, sets_of, in_range, queued_of, desk_of}
use Rattle.model.specs.Shape.{is_number, is_given, number_shaped, message_shaped, messages_shaped, rig_shaped, tables_shaped, well_shaped}
use Rattle.model.proofs.Shaped.{shaped, queued-number}
use Rattle.model.specs.Losses.{unnumbered}
use Rattle.model_earlier.specs.Rules as Earlier
use Rattle.model_earlier.specs.Claims.{Minimal, EarlierShaped}
use Rattle.model_earlier.proofs.Lost.{Numberless, numberless-number, lost-numberless}
use Rattle.model_earlier.proofs.Deliveries.{Bounded}

-- Where no fail under way has a number, the test is the same in both versions.

number_same : (m : Message) → Numberless m → Earlier.number_shaped m ≡ number_shaped m
unfolding Earlier.number_shaped number_shaped is_number
number_same m p = by_bool (eqb m.kind FAIL) (λ e. rw (e, ← numberless-number m p e)) (λ e. rw e)

messages-same : (n : ℕ) (sets : List ℕ) (ms : List Message) → All Numberless ms → Earlier.messages_shaped n sets ms ≡ messages_shaped n sets ms
unfolding Earlier.messages_shaped messages_shaped Earlier.message_shaped message_shaped All
messages-same n sets [] a = refl
messages-same n sets (m ∷ ms) a = rw (number_same m a.0, messages-same n sets ms a.1)

-- and so it is of sets of which none strictly contains another
sets_same : (n : ℕ) (sets : List ℕ) → all_minimal n sets ≡ true → eqb (meeting_code n sets) 0 ≡ eqb (setup_code n sets) 0
unfolding setup_code
sets_same n sets m = by_bool (eqb (meeting_code n sets) 0) (λ e. rw (e, m)) (λ e. rw (e, e))

pub shape_same : (s : Stored) → Minimal s → All Numberless (under_way s) → Earlier.well_shaped s ≡ well_shaped s
unfolding Earlier.well_shaped well_shaped Earlier.tables_shaped tables_shaped Earlier.rig_shaped rig_shaped
shape_same s m a =
    rw (sets_same (size_of s.tables) (sets_of s.tables) m, messages-same (size_of s.tables) (sets_of s.tables) (under_way s) a)

-- Where the version before lets a state pass, no fail has a number.

number-numberless : (m : Message) → Earlier.number_shaped m ≡ true → Numberless m
unfolding Earlier.number_shaped unnumbered
number-numberless m e =
    by_bool (eqb m.kind FAIL)
    (λ f. rw f (ap (λ n. record { kind = m.kind; from = m.from; to = m.to; about = m.about; number = n }) (sym (eqb-true m.number 0 (rw f at e)))))
    (λ f. rw f)

messages-numberless : (n : ℕ) (sets : List ℕ) (ms : List Message) → Earlier.messages_shaped n sets ms ≡ true → All Numberless ms
unfolding Earlier.messages_shaped Earlier.message_shaped All
messages-numberless n sets [] e = tt
messages-numberless n sets (m ∷ ms) e =
    let (one, more) = and_split (Earlier.message_shaped n sets m) (Earlier.messages_shaped n sets ms) e in
    let a = (and_split (in_range n m.from) _ one).1 in
    let b = (and_split (in_range n m.to) _ a).1 in
    (number-numberless m (and_split (Earlier.number_shaped m) _ b).0, messages-numberless n sets ms more)

pub earlier-shaped : EarlierShaped
unfolding EarlierShaped Earlier.well_shaped
earlier-shaped s m e =
    let a = (and_split (leb s.count message_limit) _ e).1 in
    let numberless = messages-numberless (size_of s.tables) (sets_of s.tables) (under_way s) (and_split (Earlier.tables_shaped s.tables) _ a).1 in
    (sym (shape_same s m numberless) ∙ e, lost-numberless (under_way s) numberless)

-- The numbers

pub request-number : (n : ℕ) (sets : List ℕ) (m : Message) → message_shaped n sets m ≡ true → m.kind ≡ REQUEST → m.number ≤ number_limit
unfolding message_shaped number_shaped is_given is_number
request-number n sets m e k =
    let a = (and_split (in_range n m.from) _ e).1 in
    let b = (and_split (in_range n m.to) _ a).1 in
    let c = (and_split (number_shaped m) _ b).0 in
    leb-true m.number number_limit (and_split (leb 1 m.number) _ (rw k at c)).1

pub desk-bounded : (s : Stored) → well_shaped s ≡ true → (k : ℕ) → in_range (size_of s.tables) k ≡ true → Bounded (desk_of s.tables k)
unfolding desk_of cell at
desk-bounded s w k i =
    let h = shaped s w in
    record { size = h.sets.high; queued = queued }
  where
    queued : (x : ℕ) → x ≤ site_limit → queued_of s.tables k x ≤ number_limit
    queued zero l = omega arith
    queued (suc x) l = queued-number s (shaped s w) k (suc x) i (record { low = omega arith; high = l })
