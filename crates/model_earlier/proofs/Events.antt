-- One event of the version before: it is one of this version, after which every fail loses its number.
use Prim.Native.Nat.{ℕ}
use mathlib.Core.Path.{◌≡◌, refl, ap, ◌∙◌}
use mathlib.Core.Bool.{true}
use mathlib.Core.List.{List, [], ◌∷◌}
use mathlib.Core.Option.{Option, none, some}
use lib.Dec.{eqb}
use lib.ListN.{length}
use Rattle.basics.specs.Helpers.{first, without_first, All}
use Rattle.basics.proofs.Basics.{by_bool, and_split}
use Rattle.basics.proofs.Lists.{all_without}
use Rattle.rig.specs.declared.Desk.{Desk}
use Rattle.rig.specs.declared.Event.{Event}
use Rattle.rig.specs.declared.Event.TheVariants.{Ask, Leave, Deliver}
use Rattle.rig.specs.declared.Message.{Message}
use Rattle.rig.specs.Limits.{message_limit, number_limit}
use Rattle.model.specs.State.{Tables, Stored, under_way, size_of, sets_of, in_range, is_resting, is_inside, desk_of}
use Rattle.model.specs.Desk.{Effect}
use Rattle.model.specs.Ask.{asked}
use Rattle.model.specs.Leave.{left}
use Rattle.model.specs.Deliver.{between, delivered}
use Rattle.model.specs.Shape.{well_shaped}
use Rattle.model.specs.Event.{actor, sites_named, Attempt, refused, possible, taken_off, attempt, attempted, numbers_up_to, numbers_fit, limit_code, effect_code, Outcome, outcome, judged, event_at, settled, played, tested, event}
use Rattle.model.specs.Losses.{lost, lost_all}
use Rattle.model.proofs.Delivered.{first-shaped}
use Rattle.model.proofs.Shaped.{shaped, ends}
use Rattle.model.proofs.Sent.{asked-sends, left-sends}
use Rattle.model_earlier.specs.Rules as Earlier
use Rattle.model_earlier.specs.Claims.{without_numbers, EarlierEvent}
use Rattle.model.proofs.Lost.{length-lost}
use Rattle.model_earlier.proofs.Lost.{Numberless, others, lost-numberless, numberless-lost, lost-append, lost-accepted}
use Rattle.model_earlier.proofs.Deliveries.{Fits, lost_effect, Near, numberless-near, delivered-near}
use Rattle.model_earlier.proofs.Shapes.{shape_same, request-number, desk-bounded}

-- The limits are judged alike.

numbers-same : (ms : List Message) → All Fits ms → numbers_up_to number_limit (lost_all ms) ≡ numbers_up_to number_limit ms
unfolding numbers_up_to lost All
numbers-same [] a = refl
numbers-same (m ∷ ms) a = rw (a.0, numbers-same ms a.1)

limit-same : (n clock grant : ℕ) (sent : List Message) (rest : ℕ) → All Fits sent → limit_code n clock grant (lost_all sent) rest ≡ limit_code n clock grant sent rest
unfolding limit_code numbers_fit
limit-same n clock grant sent rest a = rw (numbers-same sent a, length-lost (λ i. true) sent)

-- What both versions attempt: the same refusal, or effects of which one is the other without numbers.

abbrev Agrees : Attempt → Attempt → Type 0
Agrees old (refused c) = old ≡ refused c
Agrees old (possible e rest) = (old ≡ possible (lost_effect e) rest) × All Fits e.sent × All Numberless rest

near-agrees : (x e : Effect) (rest : List Message) → Near x e → All Numberless rest → Agrees (possible x rest) (possible e rest)
near-agrees x e rest n a = (ap (λ (y : Effect). possible y rest) n.same, n.fits, a)

abbrev lost_outcome : Outcome → Outcome
lost_outcome o = outcome o.code o.desk (lost_all o.messages)

judged-same : (n : ℕ) (d : Desk) (ms : List Message) (old new : Attempt) → All Numberless ms → Agrees old new → judged n d ms old ≡ lost_outcome (judged n d ms new)
unfolding judged
judged-same n d ms old (refused c) a h = rw (h, lost-numberless ms a)
judged-same n d ms old (possible e rest) a h =
    let same = limit-same n e.desk.site.clock e.desk.arbiter.grant e.sent (length rest) h.1 in
    by_bool (eqb (effect_code n e rest) 0)
    (λ c. rw (h.0, same, c, lost-append rest e.sent, lost-numberless rest h.2))
    (λ c. rw (h.0, same, c, lost-numberless ms a))

settled_same : (s : Stored) (k : ℕ) (o : Outcome) → settled s k (lost_outcome o) ≡ without_numbers s (settled s k o)
unfolding settled without_numbers
settled_same s k o = by_bool (eqb o.code 0) (λ c. rw (c, lost-accepted s.tables k o.desk o.messages)) (λ c. rw c)

module _ (s : Stored) (w : well_shaped s ≡ true) (numberless : All Numberless (under_way s)) where
  abbrev t : Tables
  t = s.tables

  abbrev ms : List Message
  ms = under_way s

  taken-agrees : (a k : ℕ) → in_range (size_of t) k ≡ true → (o : Option Message) → first (between a k) ms ≡ o → Agrees (Earlier.taken_off (desk_of t k) o (without_first (between a k) ms)) (taken_off (desk_of t k) o (without_first (between a k) ms))
  unfolding Earlier.taken_off taken_off All
  taken-agrees a k i none e = refl
  taken-agrees a k i (some m) e =
      let h = shaped s w in
      let c = all_without (between a k) Numberless ms m e numberless in
      let m-shaped = (first-shaped (size_of t) (sets_of t) a k ms m h.messages e).0 in
      near-agrees (Earlier.delivered (desk_of t k) m) (delivered (desk_of t k) m) (without_first (between a k) ms)
      (delivered-near (desk_of t k) m (desk-bounded s w k i) c.0 (ends s h m m-shaped).0.high (request-number (size_of t) (sets_of t) m m-shaped))
      c.1

  attempt-agrees : (e : Event) → sites_named (size_of t) e ≡ true → Agrees (Earlier.attempt (desk_of t (actor e)) ms e) (attempt (desk_of t (actor e)) ms e)
  unfolding Earlier.attempt attempt sites_named actor
  attempt-agrees (Ask k) i =
      by_bool (is_resting (desk_of t k).site.mode)
      (λ e. rw e (near-agrees _ _ ms (numberless-near (asked (desk_of t k)) (asked-sends Numberless others (desk_of t k))) numberless))
      (λ e. rw e refl)
  attempt-agrees (Leave k) i =
      by_bool (is_inside (desk_of t k).site.mode)
      (λ e. rw e (near-agrees _ _ ms (numberless-near (left (desk_of t k)) (left-sends Numberless others (desk_of t k))) numberless))
      (λ e. rw e refl)
  attempt-agrees (Deliver a k) i = taken-agrees a k (and_split (in_range (size_of t) a) _ i).1 (first (between a k) ms) refl

  attempted-agrees : (e : Event) → Agrees (Earlier.attempted (desk_of t (actor e)) ms e) (attempted (desk_of t (actor e)) ms e)
  unfolding Earlier.attempted attempted desk_of
  attempted-agrees e = by_bool (sites_named (size_of t) e) (λ i. rw i (attempt-agrees e i)) (λ i. rw i refl)

  played-same : (e : Event) → Earlier.played s e ≡ without_numbers s (played s e)
  unfolding Earlier.played played Earlier.event_at event_at
  played-same e =
      ap (settled s (actor e)) (judged-same t.rig.accepted (desk_of t (actor e)) ms _ _ numberless (attempted-agrees e))
      ∙ settled_same s (actor e) (judged t.rig.accepted (desk_of t (actor e)) ms (attempted (desk_of t (actor e)) ms e))

pub earlier-event : EarlierEvent
unfolding EarlierEvent Earlier.event event Earlier.tested tested without_numbers
earlier-event s e m u =
    let numberless = numberless-lost (under_way s) u in
    by_bool (eqb (length s.list) message_limit)
    (λ a. by_bool (well_shaped s)
    (λ w. rw (a, shape_same s m numberless, w) (played-same s w numberless e))
    (λ w. rw (a, shape_same s m numberless, w)))
    (λ a. rw a)
