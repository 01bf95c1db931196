-- No event sends a fail numbered 0: only a request brings fails, with the numbers of queued sites.
use Prim.Native.Nat.{ℕ, ◌≤◌}
use mathlib.Core.Path.{◌≡◌, refl, subst}
use mathlib.Core.Bool.{true, false, not}
use mathlib.Core.List.{List}
use mathlib.Core.Option.{Option, none, some}
use native.Mathlib.Omega.{arith}
use lib.Dec.{eqb}
use lib.ListN.{length}
use borrow.Author.Tests.{eqb-false, ne_eqb, not-true}
use Rattle.basics.specs.Helpers.{first, without_first, All}
use Rattle.basics.proofs.Basics.{by_bool, and_split}
use Rattle.rig.specs.declared.Desk.{Desk}
use Rattle.rig.specs.declared.Event.{Event}
use Rattle.rig.specs.declared.Event.TheVariants.{Ask, Leave, Deliver}
use Rattle.rig.specs.declared.Message.{Message}
use Rattle.rig.specs.Messages.{REQUEST}
use Rattle.model.specs.State.{Tables, Stored, under_way, size_of, sets_of, in_range, is_resting, is_inside, desk_of}
use Rattle.model.specs.Arbiter.{head_of, clock_raised}
use Rattle.model.specs.Deliver.{between}
use Rattle.model.specs.Shape.{number_shaped, message_shaped, well_shaped}
use Rattle.model.specs.Event.{actor, sites_named, Attempt, refused, possible, taken_off, attempt, attempted}
use Rattle.model.proofs.Tables.{at-put-same, at-put-other}
use Rattle.model.proofs.Shaped.{shaped, listed, ends}
use Rattle.model.proofs.Delivered.{first-shaped}
use Rattle.model.proofs.Sent.{Others, Fails, asked-sends, left-sends, delivered-sends}
use Rattle.model_shaped.specs.Numbered.{is_numberless, QueueRows, FailsNumbered}
use Rattle.model_shaped.proofs.Fine.{is-given}
use Rattle.model_shaped.proofs.Arbiters.{head-queued}

abbrev Numbered : Message → Type 0
Numbered m = is_numberless m ≡ false

others : Others Numbered
unfolding is_numberless
others = record {
  requests = λ a b n. refl;
  replies = λ a b j n. refl;
  releases = λ a b x n. refl;
  inquires = λ a b n. refl;
  yields = λ a b n. refl;
  transfers = λ a b x n. refl;
}

-- the fails that a request with a number brings: to its site, queued with that number, and to the former head, which is queued
fails : (d : Desk) (k n : ℕ) → 1 ≤ k → k ≤ length d.queued → 1 ≤ n → Fails Numbered d k n
unfolding is_numberless head_of
fails d k n low high given = record {
  own = rw (at-put-same 0 d.queued k n low high) (ne_eqb n 0 (λ z. omega arith));
  former = λ e.
      let (there, w) = and_split (not (eqb (head_of d) 0)) _ e in
      let other = eqb-false (head_of d) k (not-true _ (and_split (not (eqb (head_of d) k)) _ w).0) in
      rw (at-put-other 0 d.queued k n (head_of d) other) (ne_eqb _ 0 (head-queued d.queued d.size (eqb-false (head_of d) 0 (not-true _ there))));
}

-- a message of a well-shaped state with kind request has a number
request-given : (n : ℕ) (sets : List ℕ) (m : Message) → message_shaped n sets m ≡ true → m.kind ≡ REQUEST → 1 ≤ m.number
unfolding message_shaped number_shaped
request-given n sets m e k =
    let a = (and_split (in_range n m.from) _ e).1 in
    let b = (and_split (in_range n m.to) _ a).1 in
    let c = (and_split (number_shaped m) _ b).0 in
    (is-given m.number (rw k at c)).0

module _ (s : Stored) (w : well_shaped s ≡ true) (rows : QueueRows s.tables) where
  abbrev t : Tables
  t = s.tables

  abbrev ms : List Message
  ms = under_way s

  -- an attempt sends no fail numbered 0
  abbrev SendsNone : Attempt → Type 0
  SendsNone (refused c) = Unit {0}
  SendsNone (possible e rest) = All Numbered e.sent

  taken : (a k : ℕ) → in_range (size_of t) k ≡ true → (o : Option Message) → first (between a k) ms ≡ o → SendsNone (taken_off (desk_of t k) o (without_first (between a k) ms))
  unfolding taken_off desk_of clock_raised
  taken a k i none e = tt
  taken a k i (some m) e =
      let h = shaped s w in
      let shape = (first-shaped (size_of t) (sets_of t) a k ms m h.messages e).0 in
      let from = (ends s h m shape).0 in
      let row = rows k (listed s h k i) in
      delivered-sends Numbered others (desk_of t k) m (λ kind. fails _ m.from m.number from.low (omega (arith, from.high, row)) (request-given (size_of t) (sets_of t) m shape kind))

  attempt-sends : (e : Event) → sites_named (size_of t) e ≡ true → SendsNone (attempt (desk_of t (actor e)) ms e)
  unfolding attempt sites_named actor
  attempt-sends (Ask k) i = by_bool (is_resting (desk_of t k).site.mode) (λ e. rw e (asked-sends Numbered others (desk_of t k))) (λ e. rw e tt)
  attempt-sends (Leave k) i = by_bool (is_inside (desk_of t k).site.mode) (λ e. rw e (left-sends Numbered others (desk_of t k))) (λ e. rw e tt)
  attempt-sends (Deliver a k) i = taken a k (and_split (in_range (size_of t) a) _ i).1 (first (between a k) ms) refl

  attempted-sends : (e : Event) → SendsNone (attempted (desk_of t (actor e)) ms e)
  unfolding attempted desk_of
  attempted-sends e = by_bool (sites_named (size_of t) e) (λ i. rw i (attempt-sends e i)) (λ i. rw i tt)

pub fails-numbered : FailsNumbered
unfolding FailsNumbered
fails-numbered s e w rows f rest same = subst (λ (a : Attempt). SendsNone s w rows a) same (attempted-sends s w rows e)
