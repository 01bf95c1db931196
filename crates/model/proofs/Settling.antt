-- No rig exchanges messages for ever: every accepted delivery makes the sum of the weights smaller, and while a message is under way its
-- delivery is refused for a limit alone.
use Prim.Native.Nat.{ℕ, zero, suc, ◌+◌, ◌-◌, ◌*◌, ◌≤◌}
use mathlib.Core.Path.{◌≡◌, refl}
use mathlib.Core.Logic.{inl, inr, ◌≢◌}
use mathlib.Core.Bool.{Bool, true, not, ◌&&◌, ◌||◌, cond}
use mathlib.Core.List.{List, [], ◌∷◌, ◌++◌}
use mathlib.Core.Option.{Option, none, some}
use native.Mathlib.Omega.{arith}
use lib.Dec.{eqb, leb, ltb}
use lib.ListN.{length, replicate, length-take}
use lib.Seq.{take-append_seam}
use borrow.Author.Tests.{eqb-true, eqb-false, eq-eqb, ne_eqb}
use Rattle.basics.specs.Helpers.{first, without_first, tally}
use Rattle.basics.proofs.Basics.{by_bool, clash, and_split}
use Rattle.basics.proofs.Lists.{first_holds}
use Rattle.rig.specs.declared.Desk.{Desk}
use Rattle.rig.specs.declared.Event.{Event}
use Rattle.rig.specs.declared.Event.TheVariants.{Ask, Leave, Deliver}
use Rattle.rig.specs.declared.Message.{Message}
use Rattle.rig.specs.Limits.{site_limit, message_limit, event_limit, blank_table, SiteNumber}
use Rattle.model.specs.Tables.{at, cell}
use Rattle.model.specs.State.{Tables, Stored, under_way, size_of, sets_of, in_range, is_resting, is_inside, mode_of, fresh_tables, desk_of, with_desk, with_accepted}
use Rattle.model.specs.Desk.{Effect}
use Rattle.model.specs.Deliver.{between}
use Rattle.model.specs.Shape.{message_shaped, well_shaped}
use Rattle.model.specs.Event.{actor, sites_named, Attempt, refused, possible, taken_off, attempt, attempted, numbers_fit, limit_code, effect_code, Answer, answer, blank_message, padded, accepted_state, judged, event_at, settled, played, tested, event}
use Rattle.model.specs.Run.{fresh, run, inside_count, waiting_count, stuck, Demand3}
use Rattle.model.specs.Settling.{weights, remembered_up_to, remembered_count, measure, turn_weight, is_delivery, is_turn, accepted_of, Settles, DeliveriesEnd, DeliveriesFew, MeasureBounded, only_limits, Deliverable, SettledServes}
use Rattle.model.proofs.Weights.{weights-append, weights-high, weights-without, row-high, row-empty, rows-changed}
use Rattle.model.proofs.Accounting.{desk_weight, cost, delivered-falls, asked-cost, left-cost}
use Rattle.model.proofs.Shaped.{Shaped, shaped, listed, ends, about-arbiter}
use Rattle.model.proofs.Delivered.{first-shaped}
use Rattle.model.proofs.Theorem.{blank-cell, demand3}

-- the state after an effect e at site b, with the messages rest beside those sent
accepted-sum : (s : Stored) (b : ℕ) → SiteNumber b → (rest : List Message) (e : Effect)
    → measure (accepted_state s.tables b e.desk (rest ++ e.sent)) + (weights (under_way s) + desk_weight (desk_of s.tables b)) ≤ measure s + (weights rest + cost e)
unfolding measure accepted_state padded with_desk with_accepted remembered_count desk_of
accepted-sum s b r rest e =
    let ms = rest ++ e.sent in
    let v = rows-changed s.tables.inquired b e.desk.inquired site_limit r.low r.high in
    rw (take-append_seam ms (replicate (message_limit - length ms) blank_message), weights-append) (omega arith)

-- an answer to an event: where it is accepted, a delivery has made the sum smaller, and an ask or a leave not much larger
abbrev Counted : Stored → Event → Answer → Type 0
Counted s e x =
    cond (is_delivery e && eqb x.code 0) 1 0 + measure x.next ≤ measure s + turn_weight * cond (is_turn e && eqb x.code 0) 1 0

-- a refused one changes nothing
stays : (s : Stored) (e : Event) (x : Answer) → x.code ≢ 0 → x.next ≡ s → Counted s e x
stays s e x h q = rw (ne_eqb x.code 0 h, q) (by_bool (is_delivery e) (λ i. rw i (omega arith)) (λ i. rw i (omega arith)))

-- what an attempt at site b comes to
abbrev Costs : Stored → ℕ → Event → Attempt → Type 0
Costs s b e (refused c) = c ≢ 0
Costs s b e (possible x rest) =
    SiteNumber b × (cond (is_delivery e) 1 0 + (weights rest + cost x) ≤ weights (under_way s) + desk_weight (desk_of s.tables b) + turn_weight * cond (is_delivery e) 0 1)

judged-counted : (s : Stored) (b : ℕ) (d : Desk) (ms : List Message) (e : Event) (q : Attempt) → Costs s b e q → Counted s e (settled s b (judged s.tables.rig.accepted d ms q))
unfolding judged settled
judged-counted s b d ms e (refused c) h = stays s e _ h (rw (ne_eqb c 0 h))
judged-counted s b d ms e (possible x rest) h =
    let w = accepted-sum s b h.0 rest x in
    by_bool (eqb (effect_code s.tables.rig.accepted x rest) 0)
    (λ z. by_bool (is_delivery e)
    (λ i. rw (z, i) (omega (arith, rw i at h.1)))
    (λ i. rw (z, i) (omega (arith, rw i at h.1))))
    (λ z. stays s e (settled s b (judged s.tables.rig.accepted d ms (possible x rest))) (rw z (eqb-false _ 0 z)) (rw (z, z)))

module _ (s : Stored) (w : well_shaped s ≡ true) where
  abbrev t : Tables
  t = s.tables

  sh : Shaped s
  sh = shaped s w

  taken-costs : (a b : ℕ) (o : Option Message) → first (between a b) (under_way s) ≡ o → Costs s b (Deliver a b) (taken_off (desk_of t b) o (without_first (between a b) (under_way s)))
  unfolding taken_off desk_of
  taken-costs a b none h = λ e. omega arith
  taken-costs a b (some m) h =
      let mp = first-shaped (size_of t) (sets_of t) a b (under_way s) m sh.messages h in
      let en = ends s sh m mp.0 in
      (rw mp.1 en.1, omega (arith, weights-without (between a b) (under_way s) m h, delivered-falls (desk_of t b) m sh.sets.high en.0 (about-arbiter s sh m mp.0)))

  attempt-costs : (e : Event) → sites_named (size_of t) e ≡ true → Costs s (actor e) e (attempt (desk_of t (actor e)) (under_way s) e)
  unfolding sites_named actor attempt desk_of
  attempt-costs (Ask k) i =
      by_bool (is_resting (mode_of t k))
      (λ c. rw c (listed s sh k i, omega (arith, asked-cost (desk_of t k) sh.sets.high)))
      (λ c. rw c (λ e. omega arith))
  attempt-costs (Leave k) i =
      by_bool (is_inside (mode_of t k))
      (λ c. rw c (listed s sh k i, omega (arith, left-cost (desk_of t k) sh.sets.high)))
      (λ c. rw c (λ e. omega arith))
  attempt-costs (Deliver a b) i = taken-costs a b (first (between a b) (under_way s)) refl

  attempted-costs : (e : Event) → Costs s (actor e) e (attempted (desk_of t (actor e)) (under_way s) e)
  unfolding attempted desk_of
  attempted-costs e =
      by_bool (sites_named (size_of t) e)
      (λ c. rw c (attempt-costs e c))
      (λ c. rw c (λ x. omega arith))

-- one event on any state
event-counted : (s : Stored) (e : Event) → Counted s e (event s e)
unfolding event tested played event_at
event-counted s e =
    by_bool (eqb (length s.list) message_limit)
    (λ l. by_bool (well_shaped s)
    (λ w. rw (l, w) (judged-counted s (actor e) _ _ e _ (attempted-costs s w e)))
    (λ w. rw (l, w) (stays s e (answer 10 s) (λ x. omega arith) refl)))
    (λ l. rw l (stays s e (answer 13 s) (λ x. omega arith) refl))

pub settles : Settles
unfolding Settles accepted_of run
settles s [] = omega arith
settles s (e ∷ es) =
    let ih = settles (event s e).next es in
    let c = event-counted s e in
    omega arith

-- no more asks and leaves are accepted than there are
turns-few : (s : Stored) (es : List Event) → accepted_of is_turn s es ≤ tally is_turn es
unfolding accepted_of tally
turns-few s [] = omega arith
turns-few s (e ∷ es) =
    let ih = turns-few (event s e).next es in
    by_bool (is_turn e)
    (λ i. by_bool (eqb (event s e).code 0) (λ z. rw (i, z) (omega (arith, ih))) (λ z. rw (i, z) (omega (arith, ih))))
    (λ i. rw i (omega (arith, ih)))

pub deliveries-end : DeliveriesEnd
unfolding DeliveriesEnd Settles
deliveries-end s es h = omega (arith, settles s es, turns-few s es, h)

-- the fresh state has nothing under way and remembers nothing
fresh-rows : (n : ℕ) → remembered_up_to blank_table n ≡ 0
unfolding remembered_up_to cell
fresh-rows zero = refl
fresh-rows (suc n) = omega (arith, fresh-rows n, row-empty (at [] blank_table (suc n)) (blank-cell (suc n)))

fresh-sum : (n : ℕ) (sets : List ℕ) (list : List Message) → measure (fresh n sets list) ≡ 0
unfolding measure fresh fresh_tables weights remembered_count
fresh-sum n sets list = omega (arith, fresh-rows site_limit)

pub deliveries-few : DeliveriesFew
unfolding DeliveriesFew Settles
deliveries-few n sets list es = let h = settles (fresh n sets list) es in omega (arith, fresh-sum n sets list)

-- The sum is never large

rows-high : (table : List (List ℕ)) (n : ℕ) → remembered_up_to table n ≤ n * site_limit
unfolding remembered_up_to
rows-high table zero = omega arith
rows-high table (suc n) = let ih = rows-high table n in let r = row-high (at [] table (suc n)) in omega arith

pub measure-bounded : MeasureBounded
unfolding MeasureBounded measure remembered_count
measure-bounded s w =
    let a = weights-high (under_way s) in
    let b = rows-high s.tables.inquired site_limit in
    let c = (shaped s w).few in
    let l : length (under_way s) ≤ message_limit = rw (length-take s.count s.list) (omega arith) in
    omega arith

-- While a message is under way

-- some message passes, so there is a first one
found : (p : Message → Bool) (ms : List Message) → tally p ms ≢ 0 → (m : Message) × (first p ms ≡ some m)
unfolding tally first
found p [] h = absurd (h refl)
found p (m ∷ ms) h = by_bool (p m) (λ e. rw e (m, refl)) (λ e. rw e (found p ms (rw e at h)))

limit-only : (n clock grant : ℕ) (sent : List Message) (rest : ℕ) → only_limits (limit_code n clock grant sent rest) ≡ true
unfolding only_limits limit_code
limit-only n clock grant sent rest =
    by_bool (leb event_limit n || not (numbers_fit clock grant sent))
    (λ a. rw a)
    (λ a. by_bool (ltb message_limit (rest + length sent)) (λ b. rw (a, b)) (λ b. rw (a, b)))

judged-only : (n : ℕ) (d : Desk) (ms : List Message) (e : Effect) (rest : List Message) → only_limits (judged n d ms (possible e rest)).code ≡ true
unfolding judged only_limits
judged-only n d ms e rest = by_bool (eqb (effect_code n e rest) 0) (λ z. rw z) (λ z. rw z (limit-only n _ _ e.sent (length rest)))

-- the sites of a message under way are named
named : (s : Stored) → well_shaped s ≡ true → (a b : ℕ) (m : Message) → first (between a b) (under_way s) ≡ some m → sites_named (size_of s.tables) (Deliver a b) ≡ true
unfolding sites_named between message_shaped
named s w a b m h =
    let mp = first-shaped (size_of s.tables) (sets_of s.tables) a b (under_way s) m (shaped s w).messages h in
    let q = and_split (in_range (size_of s.tables) m.from) _ mp.0 in
    let from = eqb-true a m.from (and_split (eqb a m.from) _ (first_holds (between a b) (under_way s) m h)).0 in
    rw (from, mp.1, q.0, (and_split (in_range (size_of s.tables) m.to) _ q.1).0)

pub deliverable : Deliverable
unfolding Deliverable event tested played event_at attempted attempt actor taken_off settled desk_of
deliverable s w long a b h =
    let f = found (between a b) (under_way s) h in
    rw (eq-eqb _ message_limit long, w, named s w a b f.0 f.1, f.1) (judged-only _ _ _ _ _)

-- Once nothing is under way

pub settled-serves : SettledServes
unfolding SettledServes Demand3 stuck
settled-serves n sets list es e c =
    let s = run (fresh n sets list) es in
    let calm = (demand3 n sets list es e).not_stuck in
    by_bool (eqb (inside_count s.tables.rig) 0)
    (λ i. by_bool (eqb (waiting_count s.tables.rig) 0)
    (λ w. inr (eqb-true _ 0 w))
    (λ w. clash true refl (rw (c, i, w) at calm)))
    (λ i. inl (eqb-false _ 0 i))
