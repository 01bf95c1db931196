-- The codes of a well-shaped state: no event refuses it with 10. A list of 1,024 entries keeps its length, so that none is refused with 13.
use Prim.Native.Nat.{ℕ, ◌+◌, ◌≤◌}
use mathlib.Core.Path.{◌≡◌}
use mathlib.Core.Logic.{◌≢◌}
use mathlib.Core.Bool.{true, not, ◌||◌}
use mathlib.Core.List.{List, [], ◌∷◌}
use mathlib.Core.Option.{Option, none, some}
use native.Mathlib.Omega.{arith}
use lib.Dec.{eqb, leb, ltb}
use lib.ListN.{length, length-append, length-replicate, length-take}
use borrow.Author.Tests.{eqb-true, eq-eqb}
use Rattle.basics.specs.Helpers.{first, without_first}
use Rattle.basics.proofs.Basics.{by_bool}
use Rattle.rig.specs.declared.Desk.{Desk}
use Rattle.rig.specs.declared.Message.{Message}
use Rattle.rig.specs.declared.Event.{Event}
use Rattle.rig.specs.declared.Event.TheVariants.{Ask, Leave, Deliver}
use Rattle.rig.specs.Limits.{message_limit, event_limit}
use Rattle.model.specs.State.{Stored, under_way, is_resting, is_inside, desk_of}
use Rattle.model.specs.Deliver.{between}
use Rattle.model.specs.Shape.{well_shaped}
use Rattle.model.specs.Event.{actor, sites_named, Attempt, refused, possible, taken_off, attempt, attempted, numbers_fit, limit_code, effect_code, Outcome, padded, accepted_state, judged, event_at, settled, played, tested, event}
use Rattle.model.specs.Run.{run}
use Rattle.model.proofs.Reached.{room}

-- What comes after the test of the shape answers at most 9.

limit-low : (n clock grant : ℕ) (sent : List Message) (rest : ℕ) → limit_code n clock grant sent rest ≤ 9
unfolding limit_code
limit-low n clock grant sent rest =
    by_bool (leb event_limit n || not (numbers_fit clock grant sent))
    (λ a. rw a (omega arith))
    (λ a. by_bool (ltb message_limit (rest + length sent))
    (λ b. rw (a, b) (omega arith))
    (λ b. rw (a, b) (omega arith)))

pub padded-long : (ms : List Message) → length ms ≤ message_limit → length (padded ms) ≡ message_limit
unfolding padded
padded-long ms few = rw (length-append, length-replicate) (omega arith)

module _ (n : ℕ) (d : Desk) (ms : List Message) where
  -- a refusal of the rules is none of the limits
  abbrev Low : Attempt → Type 0
  Low (refused c) = c ≤ 9
  Low (possible e rest) = Unit {0}

  judged-low : (a : Attempt) → Low a → (judged n d ms a).code ≤ 9
  unfolding judged
  judged-low (refused c) h = h
  judged-low (possible e rest) h =
      by_bool (eqb (effect_code n e rest) 0)
      (λ b. rw b (omega arith))
      (λ b. rw b (limit-low n _ _ e.sent (length rest)))

  taken-low : (m : Option Message) (rest : List Message) → Low (taken_off d m rest)
  unfolding taken_off
  taken-low none rest = omega arith
  taken-low (some m) rest = tt

  attempt-low : (e : Event) → Low (attempt d ms e)
  unfolding attempt
  attempt-low (Ask k) = by_bool (is_resting d.site.mode) (λ b. rw b tt) (λ b. rw b (omega arith))
  attempt-low (Leave k) = by_bool (is_inside d.site.mode) (λ b. rw b tt) (λ b. rw b (omega arith))
  attempt-low (Deliver a b) = taken-low (first (between a b) ms) (without_first (between a b) ms)

  attempted-low : (e : Event) → Low (attempted d ms e)
  unfolding attempted
  attempted-low e = by_bool (sites_named d.size e) (λ c. rw c (attempt-low e)) (λ c. rw c (omega arith))

  at_low : (e : Event) → (event_at n d ms e).code ≤ 9
  unfolding event_at
  at_low e = judged-low (attempted d ms e) (attempted-low e)

  -- An outcome of code 0 leaves at most 1,024 messages.
  abbrev Few : Outcome → Type 0
  Few o = eqb o.code 0 ≡ true → length o.messages ≤ message_limit

  judged-few : length ms ≤ message_limit → (a : Attempt) → Few (judged n d ms a)
  unfolding judged
  judged-few few (refused c) h = few
  judged-few few (possible e rest) h =
      by_bool (eqb (effect_code n e rest) 0)
      (λ b. rw b (rw length-append (room n _ _ e.sent (length rest) (eqb-true _ 0 b)).0))
      (λ b. rw b few)

  at-few : length ms ≤ message_limit → (e : Event) → Few (event_at n d ms e)
  unfolding event_at
  at-few few e = judged-few few (attempted d ms e)

module _ (s : Stored) where
  abbrev result : Event → Outcome
  result e = event_at s.tables.rig.accepted (desk_of s.tables (actor e)) (under_way s) e

  result_low : (e : Event) → (result e).code ≤ 9
  result_low e = at_low _ (desk_of s.tables (actor e)) (under_way s) e

  pub never-ten : well_shaped s ≡ true → (e : Event) → (event s e).code ≢ 10
  unfolding event tested played settled
  never-ten shaped e h =
      let l = result_low e in
      by_bool (eqb (length s.list) message_limit)
      (λ b. let x : (result e).code ≡ 10 = rw (b, shaped) at h in absurd (omega arith))
      (λ b. let x : ◌≡◌ {A = ℕ} 13 10 = rw b at h in absurd (omega arith))

  pub never-thirteen : length s.list ≡ message_limit → (e : Event) → (event s e).code ≢ 13
  unfolding event tested played settled
  never-thirteen long e h =
      let l = result_low e in
      by_bool (well_shaped s)
      (λ b. let x : (result e).code ≡ 13 = rw (eq-eqb _ message_limit long, b) at h in absurd (omega arith))
      (λ b. let x : ◌≡◌ {A = ℕ} 10 13 = rw (eq-eqb _ message_limit long, b) at h in absurd (omega arith))

  -- The list keeps its length.

  pub event-long : (e : Event) → length s.list ≡ message_limit → length (event s e).next.list ≡ message_limit
  unfolding event tested played settled accepted_state
  event-long e long =
      let few : length (under_way s) ≤ message_limit = rw (length-take s.count s.list) (omega arith) in
      by_bool (eqb (length s.list) message_limit)
      (λ a. by_bool (well_shaped s)
      (λ b. by_bool (eqb (result e).code 0)
      (λ c. rw (a, b, c) (padded-long (result e).messages (at-few _ (desk_of s.tables (actor e)) (under_way s) few e c)))
      (λ c. rw (a, b, c) long))
      (λ b. rw (a, b) long))
      (λ a. rw a long)

pub run_long : (es : List Event) (s : Stored) → length s.list ≡ message_limit → length (run s es).list ≡ message_limit
unfolding run
run_long [] s long = long
run_long (e ∷ es) s long = run_long es (event s e).next (event-long s e long)
