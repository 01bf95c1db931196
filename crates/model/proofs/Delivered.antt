-- A delivery: the first message of a channel is the same one in the definitions and in the machine, and each kind comes to the same
-- state of the whole rig.
use Prim.Native.Nat.{ℕ}
use mathlib.Core.Path.{◌≡◌, refl, ◌∙◌, ap}
use mathlib.Core.Bool.{true, ◌||◌}
use mathlib.Core.List.{List, [], ◌∷◌, ◌++◌, map}
use mathlib.Core.Option.{some}
use native.Mathlib.Omega.{arith}
use lib.Dec.{eqb}
use borrow.Author.Tests.{eqb-true, ne_eqb}
use Rattle.basics.specs.Helpers.{first, without_first}
use Rattle.basics.proofs.Basics.{by_bool, clash, and_split}
use Rattle.rig.specs.declared.Message.{Message}
use Rattle.protocol.specs.Rig as R
use Rattle.model.specs.State.{Tables, Stored, size_of, sets_of, has_member, desk_of, with_desk}
use Rattle.model.specs.Deliver.{between, delivered}
use Rattle.model.specs.Shape.{release_shaped, about_shaped, message_shaped, messages_shaped}
use Rattle.model.proofs.Machine.{system_of, sent_of, rig_of, Sized}
use Rattle.model.proofs.Shaped.{by_kind, Shaped, ties, tied-listed, ends}
use Rattle.model.proofs.ArbiterDelivered.{request-delivered, release-delivered, hand_over-delivered, yield-delivered}
use Rattle.model.proofs.SiteDelivered.{transfer-delivered, inquire-delivered}
use Rattle.model.proofs.ReplyDelivered.{reply-delivered}
use Rattle.model.proofs.FailDelivered.{fail-delivered}

-- a message goes the same way in both
way_same : (a b : ℕ) (m : Message) → R.channel a b (sent_of m) ≡ between a b m
unfolding between
way_same a b m =
    by_kind m.kind
    (λ e. rw e)
    (λ e. rw e)
    (λ e. rw e (by_bool (eqb m.about 0) (λ h. rw h) (λ h. rw h)))
    (λ e. rw e)
    (λ e. rw e)
    (λ e. rw e)
    (λ e. rw e)
    (λ n1 n2 n3 n4 n5 n6 n7. rw (ne_eqb _ _ n1, ne_eqb _ _ n2, ne_eqb _ _ n3, ne_eqb _ _ n4, ne_eqb _ _ n5, ne_eqb _ _ n6))

first-same : (a b : ℕ) (ms : List Message) (m : Message) → first (between a b) ms ≡ some m → first (R.channel a b) (map sent_of ms) ≡ some (sent_of m)
unfolding first
first-same a b [] m e = let z : ◌≡◌ {A = ℕ} 0 1 = cc in absurd (omega arith)
first-same a b (x ∷ ms) m e =
    rw (way_same a b x)
    (by_bool (between a b x)
    (λ h. let q : x ≡ m = cc in rw (h, q))
    (λ h. rw h (first-same a b ms m (rw h at e))))

rest-same : (a b : ℕ) (ms : List Message) → without_first (R.channel a b) (map sent_of ms) ≡ map sent_of (without_first (between a b) ms)
unfolding without_first
rest-same a b [] = refl
rest-same a b (m ∷ ms) = rw (way_same a b m) (by_bool (between a b m) (λ h. rw h) (λ h. rw (h, rest-same a b ms)))

-- the delivery of m is the machine's
pub step-delivers : (t : Tables) (ms : List Message) (a b : ℕ) (m : Message) → first (between a b) ms ≡ some m
    → R.step (system_of t) (rig_of t ms) (R.deliver a b) ≡ R.delivered (system_of t) (rig_of t ms) (map sent_of (without_first (between a b) ms)) (sent_of m).arbiter (sent_of m).message
unfolding R.step R.taken_off
step-delivers t ms a b m e = rw (first-same a b ms m e, rest-same a b ms)

-- the message that is taken off is well shaped, and goes to b
pub first-shaped : (n : ℕ) (sets : List ℕ) (a b : ℕ) (ms : List Message) (m : Message) → messages_shaped n sets ms ≡ true → first (between a b) ms ≡ some m → (message_shaped n sets m ≡ true) × (b ≡ m.to)
unfolding messages_shaped first between
first-shaped n sets a b [] m s e = let z : ◌≡◌ {A = ℕ} 0 1 = cc in absurd (omega arith)
first-shaped n sets a b (x ∷ ms) m s e =
    let w = and_split (message_shaped n sets x) (messages_shaped n sets ms) s in
    by_bool (between a b x)
    (λ h. let q : x ≡ m = cc in (rw q at w.0, eqb-true b x.to (and_split (eqb a x.from) (eqb b x.to) h).1 ∙ ap (λ (y : Message). y.to) q))
    (λ h. first-shaped n sets a b ms m w.1 (rw h at e))

module _ (s : Stored) (z : Sized s.tables) (sh : Shaped s) (m : Message) (e : message_shaped (size_of s.tables) (sets_of s.tables) m ≡ true) where
  abbrev t : Tables
  t = s.tables

  pub delivered-same : (rest ms : List Message)
      → rig_of (with_desk t m.to (delivered (desk_of t m.to) m).desk) (rest ++ (delivered (desk_of t m.to) m).sent) ≡ R.delivered (system_of t) (rig_of t ms) (map sent_of rest) (sent_of m).arbiter (sent_of m).message
  unfolding delivered about_shaped release_shaped
  delivered-same rest ms =
      let x = ends s sh m e in
      let fr = x.0 in
      let to = x.1 in
      let ab = x.2 in
      by_kind m.kind
      (λ k. rw k (request-delivered t z m.to to.low to.high rest ms m.from m.number fr.low fr.high))
      (λ k. let a = (tied-listed s sh m.to m.about (rw k at ab)).1 in
      rw k (reply-delivered t z m.to to.low to.high rest m.about a.low a.high m.number ms m.from))
      (λ k. let a = (and_split (has_member (sets_of t) m.from m.to) (eqb m.about 0 || has_member (sets_of t) m.about m.to) (rw k at ab)).1 in
      rw k (by_bool (eqb m.about 0)
      (λ h. rw (h, eqb-true m.about 0 h) (release-delivered t z m.to to.low to.high rest ms m.from m.number fr.low fr.high))
      (λ h. let b = (tied-listed s sh m.about m.to (rw h at a)).0 in
      rw h (hand_over-delivered t z m.to to.low to.high rest ms m.from m.about m.number b.low b.high))))
      (λ k. rw k (inquire-delivered t z m.to to.low to.high rest m.from fr.low fr.high ms m.number))
      (λ k. rw k (fail-delivered t z m.to to.low to.high rest ms (λ j h. let w = ties s sh m.to j h in (w.2, w.3)) m.number m.from))
      (λ k. rw k (yield-delivered t z m.to to.low to.high rest ms m.from m.number fr.low fr.high))
      (λ k. rw k (transfer-delivered t z m.to to.low to.high rest m.from fr.low fr.high ms m.about m.number))
      (λ n1 n2 n3 n4 n5 n6 n7. clash (about_shaped (sets_of t) m) ab (rw (ne_eqb _ _ n1, ne_eqb _ _ n2, ne_eqb _ _ n3, ne_eqb _ _ n4, ne_eqb _ _ n5, ne_eqb _ _ n6, ne_eqb _ _ n7)))
