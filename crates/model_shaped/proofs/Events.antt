-- An event leaves a well-shaped state.
use Prim.Native.Nat.{ℕ, ◌-◌, ◌≤◌}
use mathlib.Core.Path.{◌≡◌, refl, sym, subst}
use mathlib.Core.Logic.{◌≢◌}
use mathlib.Core.Bool.{true, not, ◌||◌}
use mathlib.Core.List.{List, [], ◌∷◌, ◌++◌}
use mathlib.Core.Option.{Option, none, some}
use native.Mathlib.Omega.{arith}
use lib.Dec.{eqb, leb}
use lib.ListN.{length, replicate, length-append}
use lib.Seq.{take-append_seam}
use borrow.Author.Tests.{eqb-true, eq-eqb, leb-true, le-leb, not-false}
use Rattle.basics.specs.Helpers.{first, without_first, All}
use Rattle.basics.proofs.Basics.{by_bool, and_split, or-none, all-at}
use Rattle.basics.proofs.Lists.{all_append, first_holds, all_without}
use Rattle.rig.specs.declared.Event.{Event}
use Rattle.rig.specs.declared.Event.TheVariants.{Ask, Leave, Deliver}
use Rattle.rig.specs.declared.Message.{Message}
use Rattle.rig.specs.Limits.{site_limit, message_limit, event_limit, number_limit}
use Rattle.model.specs.Tables.{at}
use Rattle.model.specs.State.{Tables, Stored, under_way, size_of, sets_of, in_range, is_resting, is_inside, arbiter_of, desk_of, with_desk, with_accepted}
use Rattle.model.specs.Desk.{Effect}
use Rattle.model.specs.Deliver.{between}
use Rattle.model.specs.Shape.{is_number, message_shaped, messages_shaped, tables_shaped, well_shaped}
use Rattle.model.specs.Event.{actor, sites_named, Attempt, refused, possible, taken_off, attempt, attempted, numbers_up_to, numbers_fit, limit_code, effect_code, blank_message, Answer, padded, accepted_state, judged, event_at, settled, played, tested, event}
use Rattle.model.proofs.Reached.{room}
use Rattle.model.proofs.Shaped.{Shaped, shaped, within, ties, listed}
use Rattle.model.proofs.Codes.{event-long}
use Rattle.model_shaped.specs.Kept.{has_granted, all_granted, HeldRows, ShapeKeptAt, Playable, ShapeKept}
use Rattle.model_shaped.proofs.Fine.{Here, Fine, Passes, FineEffect}
use Rattle.model_shaped.proofs.Sites.{asked-fine, left-fine}
use Rattle.model_shaped.proofs.Deliveries.{delivered-fine}
use Rattle.model_shaped.proofs.Desks.{Tests, tests, desk-fine, tables-shaped, all-granted, rows-kept}

-- Messages

module _ (n : ℕ) (sets : List ℕ) where
  abbrev IsShaped : Message → Type 0
  IsShaped m = message_shaped n sets m ≡ true

  messages-all : (ms : List Message) → messages_shaped n sets ms ≡ true → All IsShaped ms
  unfolding messages_shaped All
  messages-all [] e = tt
  messages-all (m ∷ ms) e = let w = and_split (message_shaped n sets m) _ e in (w.0, messages-all ms w.1)

  all-messages : (ms : List Message) → All IsShaped ms → messages_shaped n sets ms ≡ true
  unfolding messages_shaped All
  all-messages [] a = refl
  all-messages (m ∷ ms) a = rw (a.0, all-messages ms a.1)

  sent-shaped : (ms : List Message) → All (Passes n sets) ms → numbers_up_to number_limit ms ≡ true → All IsShaped ms
  unfolding numbers_up_to All
  sent-shaped [] a e = tt
  sent-shaped (m ∷ ms) a e =
      let w = and_split (leb m.number number_limit) _ e in
      (a.0 (leb-true m.number number_limit w.0), sent-shaped ms a.1 w.1)

-- what a code of 0 says of the numbers
fits : (accepted clock grant : ℕ) (sent : List Message) (rest : ℕ) → limit_code accepted clock grant sent rest ≡ 0
    → (clock ≤ number_limit) × (grant ≤ number_limit) × (numbers_up_to number_limit sent ≡ true)
unfolding limit_code numbers_fit is_number
fits accepted clock grant sent rest h =
    by_bool (leb event_limit accepted || not (numbers_fit clock grant sent))
    (λ a. let x : ◌≡◌ {A = ℕ} 9 0 = rw a at h in absurd (omega arith))
    (λ a. let b = and_split (is_number clock) _ (not-false _ (or-none (leb event_limit accepted) _ a).1) in
    let c = and_split (is_number grant) _ b.1 in
    (leb-true clock number_limit b.0, leb-true grant number_limit c.0, c.1))

actor-named : (n : ℕ) (e : Event) → sites_named n e ≡ true → in_range n (actor e) ≡ true
unfolding sites_named actor
actor-named n (Ask k) i = i
actor-named n (Leave k) i = i
actor-named n (Deliver a k) i = (and_split (in_range n a) _ i).1

module _ (s : Stored) (w : well_shaped s ≡ true) (rows : HeldRows s.tables) where
  abbrev t : Tables
  t = s.tables

  abbrev ms : List Message
  ms = under_way s

  sh : Shaped s
  sh = shaped s w

  tested-tables : Tests t
  unfolding well_shaped
  tested-tables = tests t (and_split (tables_shaped t) _ (and_split (leb s.count message_limit) _ w).1).0

  place : (k : ℕ) → in_range (size_of t) k ≡ true → Here (size_of t) (sets_of t) k
  place k i = let b = within (size_of t) k i in record { low = b.0; high = b.1; small = sh.sets.high; ties = ties s sh }

  under-way : All (IsShaped (size_of t) (sets_of t)) ms
  under-way = messages-all (size_of t) (sets_of t) ms sh.messages

  -- What an attempt at site k would do: it is refused, or it leaves a shaped desk and shaped messages.
  record Leaves (k : ℕ) (e : Effect) (rest : List Message) : Type 0 where
    inside : in_range (size_of t) k ≡ true
    fine : FineEffect (size_of t) (sets_of t) k e
    rests : All (IsShaped (size_of t) (sets_of t)) rest

  abbrev Keeps : ℕ → Attempt → Type 0
  Keeps k (refused c) = c ≢ 0
  Keeps k (possible e rest) = Leaves k e rest

  module _ (k : ℕ) (i : in_range (size_of t) k ≡ true) (g : has_granted (arbiter_of t k) ≡ true) where
    fine : Fine (size_of t) (sets_of t) k (desk_of t k)
    fine = let r = listed s sh k i in desk-fine t tested-tables k i r g (rows k r)

    taken-keeps : (a : ℕ) (o : Option Message) → first (between a k) ms ≡ o → Keeps k (taken_off (desk_of t k) o (without_first (between a k) ms))
    unfolding taken_off All between
    taken-keeps a none e = λ z. omega (arith, z)
    taken-keeps a (some m) e =
        let c = all_without (between a k) (IsShaped (size_of t) (sets_of t)) ms m e under-way in
        let to = eqb-true k m.to (and_split (eqb a m.from) _ (first_holds (between a k) ms m e)).1 in
        record { inside = i; fine = delivered-fine (place k i) (desk_of t k) fine m (sym to) c.0; rests = c.1 }

  attempt-keeps : (e : Event) → sites_named (size_of t) e ≡ true → has_granted (arbiter_of t (actor e)) ≡ true → Keeps (actor e) (attempt (desk_of t (actor e)) ms e)
  unfolding sites_named actor attempt
  attempt-keeps (Ask k) i g =
      by_bool (is_resting (desk_of t k).site.mode)
      (λ e. rw e (record { inside = i; fine = asked-fine (place k i) (desk_of t k) (fine k i g); rests = under-way }))
      (λ e. rw e (λ z. omega (arith, z)))
  attempt-keeps (Leave k) i g =
      by_bool (is_inside (desk_of t k).site.mode)
      (λ e. rw e (record { inside = i; fine = left-fine (place k i) (desk_of t k) (fine k i g); rests = under-way }))
      (λ e. rw e (λ z. omega (arith, z)))
  attempt-keeps (Deliver a k) i g = taken-keeps k (actor-named (size_of t) (Deliver a k) i) g a (first (between a k) ms) refl

  -- the site at which an event happens has granted, if it has a holder as an arbiter
  abbrev pub ActorGranted : Event → Type 0
  ActorGranted e = in_range (size_of t) (actor e) ≡ true → has_granted (arbiter_of t (actor e)) ≡ true

  pub actor-granted : all_granted t.rig ≡ true → (e : Event) → ActorGranted e
  unfolding all_granted
  actor-granted g e i = let r = listed s sh (actor e) i in all-at (λ j. has_granted (arbiter_of t j)) site_limit (actor e) g r.low r.high

  attempted-keeps : (e : Event) → ActorGranted e → Keeps (actor e) (attempted (desk_of t (actor e)) ms e)
  unfolding attempted desk_of
  attempted-keeps e g =
      by_bool (sites_named (size_of t) e)
      (λ c. rw c (attempt-keeps e c (g (actor-named (size_of t) e c))))
      (λ c. rw c (λ z. omega (arith, z)))

  -- the state after an accepted event
  module _ (k : ℕ) (e : Effect) (rest : List Message) (l : Leaves k e rest) (code : effect_code t.rig.accepted e rest ≡ 0) where
    step-shaped : well_shaped (accepted_state t k e.desk (rest ++ e.sent)) ≡ true
    unfolding well_shaped accepted_state padded with_accepted with_desk
    step-shaped =
        let all = rest ++ e.sent in
        let space = room _ _ _ e.sent (length rest) code in
        let f = fits _ _ _ e.sent (length rest) code in
        let len : length all ≤ message_limit = rw length-append space.0 in
        let shapes = all_append _ rest e.sent l.rests (sent-shaped (size_of t) (sets_of t) e.sent l.fine.sent f.2) in
        let seam = take-append_seam all (replicate (message_limit - length all) blank_message) in
        let tables = tables-shaped t tested-tables k l.inside e.desk l.fine.desk space.1 f.0 f.1 in
        rw (le-leb (length all) message_limit len, tables, seam, all-messages (size_of t) (sets_of t) all shapes)

    step-granted : all_granted t.rig ≡ true → all_granted (accepted_state t k e.desk (rest ++ e.sent)).tables.rig ≡ true
    unfolding accepted_state with_accepted with_desk all_granted
    step-granted g = all-granted t tested-tables k l.inside e.desk l.fine.desk g

    step-rows : HeldRows (accepted_state t k e.desk (rest ++ e.sent)).tables
    unfolding accepted_state with_accepted with_desk
    step-rows = rows-kept t tested-tables k l.inside e.desk l.fine.desk rows

  -- what s has and an accepted event leaves, every event leaves
  module _ (P : Stored → Type 0) (old : P s) (new : (k : ℕ) (e : Effect) (rest : List Message) → Leaves k e rest → effect_code t.rig.accepted e rest ≡ 0 → P (accepted_state t k e.desk (rest ++ e.sent))) where
    judged-next : (k : ℕ) (a : Attempt) → Keeps k a → P (settled s k (judged t.rig.accepted (desk_of t k) ms a)).next
    unfolding judged settled
    judged-next k (refused c) h = by_bool (eqb c 0) (λ e. absurd (h (eqb-true c 0 e))) (λ e. rw e old)
    judged-next k (possible e rest) l =
        by_bool (eqb (effect_code t.rig.accepted e rest) 0)
        (λ c. rw c (new k e rest l (eqb-true _ 0 c)))
        (λ c. rw (c, c) old)

    played-next : (e : Event) → ActorGranted e → P (played s e).next
    unfolding played event_at
    played-next e g = judged-next (actor e) (attempted (desk_of t (actor e)) ms e) (attempted-keeps e g)

  -- a well-shaped state stays well-shaped where the site of the event has granted
  pub shape-next : (e : Event) → ActorGranted e → well_shaped (played s e).next ≡ true
  shape-next e g = played-next (λ x. well_shaped x ≡ true) w step-shaped e g

-- playable but for the length of the list
pub record Steady (s : Stored) : Type 0 where
  pub shaped : well_shaped s ≡ true
  pub granted : all_granted s.tables.rig ≡ true
  pub rows : HeldRows s.tables

pub steady-next : (s : Stored) → Steady s → (e : Event) → Steady (played s e).next
steady-next s h e =
    let w = h.shaped in
    let r = h.rows in
    played-next s w r Steady h
    (λ k a rest l c. record { shaped = step-shaped s w r k a rest l c; granted = step-granted s w r k a rest l c h.granted; rows = step-rows s w r k a rest l c })
    e (actor-granted s w r h.granted e)

-- the answer on a list of any length
pub event-cases : (P : Stored → Type 0) (s : Stored) (e : Event) → well_shaped s ≡ true → P s → P (played s e).next → P (event s e).next
unfolding event tested
event-cases P s e w old new = by_bool (eqb (length s.list) message_limit) (λ a. rw (a, w) new) (λ a. rw a old)

pub shape-kept-at : ShapeKeptAt
unfolding ShapeKeptAt
shape-kept-at s e w r g = event-cases (λ x. well_shaped x ≡ true) s e w w (shape-next s w r e (λ i. g))

-- a playable state on which an event is played
pub playable-next : (s : Stored) (e : Event) → Playable s → Playable (played s e).next
unfolding event tested
playable-next s e h =
    let n = steady-next s (record { shaped = h.shaped; granted = h.granted; rows = h.rows }) e in
    let same : event s e ≡ played s e = rw (eq-eqb _ message_limit h.long, h.shaped) in
    record { shaped = n.shaped; granted = n.granted; rows = n.rows; long = subst (λ (x : Answer). length x.next.list ≡ message_limit) same (event-long s e h.long) }

pub shape-kept : ShapeKept
unfolding ShapeKept
shape-kept s e h = event-cases Playable s e h.shaped h (playable-next s e h)
