-- Fails lose their numbers. No clause of the invariant but L1 speaks of a fail's number, and L1 asks for a fail that counts: one without
-- its number does.
use Prim.Native.Nat.{ℕ, suc, ◌≤◌}
use mathlib.Core.Path.{◌≡◌, refl, sym}
use mathlib.Core.Bool.{Bool, true, false, cond}
use mathlib.Core.List.{List, [], ◌∷◌}
use native.Mathlib.Omega.{arith}
use lib.Dec.{eqb}
use Rattle.basics.specs.Helpers.{tally, All}
use Rattle.protocol.specs.Message.{Message, request, reply, release, hand_over, inquire, fail, yield, transfer}
use Rattle.protocol.specs.Setting.{Setting}
use Rattle.protocol.specs.Local.{Local, view}
use Rattle.protocol.specs.Rig.{Sent, messages_of, unnumbered, lost}
use Rattle.basics.proofs.Basics.{by_bool, clash, and_split, and-true}
use Rattle.protocol.proofs.Invariant.{number_of, carries_permission, is_request_of, is_return_of, is_hand_over, is_fail_for, is_inquire_to, is_inquire, Ordered, Ascending, Fits, Invariant}

-- the message m, or m without its number
abbrev pub maybe_lost : Bool → Message → Message
maybe_lost b m = cond b (unnumbered m) m

-- what holds of m and m, and of a fail and the fail without its number, holds of the two
pub maybe-lost : (P : Message → Message → Type 0) → ((m : Message) → P m m) → ((k n : ℕ) → P (fail k n) (fail k 0)) → (b : Bool) (m : Message) → P m (maybe_lost b m)
maybe-lost P same lose false m = same m
maybe-lost P same lose true (request k a) = same (request k a)
maybe-lost P same lose true (reply f k n) = same (reply f k n)
maybe-lost P same lose true (release k n) = same (release k n)
maybe-lost P same lose true (hand_over k x n) = same (hand_over k x n)
maybe-lost P same lose true (inquire k n) = same (inquire k n)
maybe-lost P same lose true (fail k n) = lose k n
maybe-lost P same lose true (yield k n) = same (yield k n)
maybe-lost P same lose true (transfer k x n) = same (transfer k x n)

-- The second list is the first, but for the numbers of some fails.
unfoldable pub Loses : List Message → List Message → Type 0
Loses [] [] = Unit {0}
Loses [] (m ∷ ms) = ⊥
Loses (m ∷ ms) [] = ⊥
Loses (m ∷ ms) (m' ∷ ms') = ((b : Bool) × (m' ≡ maybe_lost b m)) × Loses ms ms'

-- those of one arbiter
pub messages-lost : (j : ℕ) (p : ℕ → Bool) (xs : List Sent) → Loses (messages_of j xs) (messages_of j (lost p xs))
unfolding messages_of lost Loses
messages-lost j p [] = tt
messages-lost j p (x ∷ xs) =
    let rest = messages-lost j (λ i. p (suc i)) xs in
    by_bool (eqb j x.arbiter) (λ f. rw f ((p 0, refl), rest)) (λ f. rw f rest)

-- a count that does not go by a fail's number, and one of which a lost number takes none away
module _ (f : Message → Bool) where
  tally-lost : ((k n : ℕ) → f (fail k 0) ≡ f (fail k n)) → (ms ms' : List Message) → Loses ms ms' → tally f ms' ≡ tally f ms
  unfolding Loses tally
  tally-lost s [] [] l = refl
  tally-lost s [] (m ∷ ms) l = absurd l
  tally-lost s (m ∷ ms) [] l = absurd l
  tally-lost s (m ∷ ms) (m' ∷ ms') l = let h : f m' ≡ f m = rw l.0.1 (maybe-lost (λ x y. f y ≡ f x) (λ x. refl) s l.0.0 m) in rw (h, tally-lost s ms ms' l.1)

  tally-more : ((k n : ℕ) → f (fail k n) ≡ true → f (fail k 0) ≡ true) → (ms ms' : List Message) → Loses ms ms' → tally f ms ≤ tally f ms'
  unfolding Loses tally
  tally-more s [] [] l = omega arith
  tally-more s [] (m ∷ ms) l = absurd l
  tally-more s (m ∷ ms) [] l = absurd l
  tally-more s (m ∷ ms) (m' ∷ ms') l =
      let h : f m ≡ true → f m' ≡ true = rw l.0.1 (maybe-lost (λ x y. f x ≡ true → f y ≡ true) (λ x e. e) s l.0.0 m) in
      let w = tally-more s ms ms' l.1 in
      by_bool (f m) (λ e. rw (e, h e) (omega arith)) (λ e. by_bool (f m') (λ g. rw (e, g) (omega arith)) (λ g. rw (e, g) w))

all-lost : (P : Message → Type 0) → ((k n : ℕ) → P (fail k n) → P (fail k 0)) → (ms ms' : List Message) → Loses ms ms' → All P ms → All P ms'
unfolding Loses All
all-lost P s [] [] l a = tt
all-lost P s [] (m ∷ ms) l a = absurd l
all-lost P s (m ∷ ms) [] l a = absurd l
all-lost P s (m ∷ ms) (m' ∷ ms') l a = (rw l.0.1 (maybe-lost (λ x y. P x → P y) (λ x e. e) s l.0.0 m a.0), all-lost P s ms ms' l.1 a.1)

ordered-lost : (ms ms' : List Message) → Loses ms ms' → Ordered ms → Ordered ms'
unfolding Loses Ordered
ordered-lost [] [] l a = tt
ordered-lost [] (m ∷ ms) l a = absurd l
ordered-lost (m ∷ ms) [] l a = absurd l
ordered-lost (m ∷ ms) (m' ∷ ms') l a = (
  λ k e. rw (tally-lost (is_return_of k) (λ i n. refl) ms ms' l.1) (a.0 k (maybe-lost (λ x y. is_request_of k y ≡ true → is_request_of k x ≡ true) (λ x z. z) (λ i n z. z) l.0.0 m (rw l.0.1 at e))),
  ordered-lost ms ms' l.1 a.1,
)

ascending-lost : (k lo : ℕ) (ms ms' : List Message) → Loses ms ms' → Ascending k lo ms → Ascending k lo ms'
unfolding Loses Ascending
ascending-lost k lo [] [] l a = tt
ascending-lost k lo [] (m ∷ ms) l a = absurd l
ascending-lost k lo (m ∷ ms) [] l a = absurd l
ascending-lost k lo (m ∷ ms) (m' ∷ ms') l a =
    let P : Message → Message → Type 0 = λ x y. ((is_inquire_to k x ≡ true → lo ≤ number_of x) → is_inquire_to k y ≡ true → lo ≤ number_of y) × (cond (is_inquire_to k y) (number_of y) lo ≡ cond (is_inquire_to k x) (number_of x) lo) in
    let h : P m m' = rw l.0.1 (maybe-lost P (λ x. (λ z. z, refl)) (λ i n. (λ z e. clash true refl (sym e), refl)) l.0.0 m) in
    (h.0 a.0, rw h.1 (ascending-lost k (cond (is_inquire_to k m) (number_of m) lo) ms ms' l.1 a.1))

module _ (p : Setting) where
  pub lost-kept : (t : Local) (ms ms' : List Message) → Loses ms ms' → Invariant p (view t ms) → Invariant p (view t ms')
  unfolding Fits
  lost-kept t ms ms' l (o, s) = (
    o,
    record {
      core = record {
        arbiter = s.core.arbiter;
        asks = s.core.asks;
        column = s.core.column;
        under_way = let u = s.core.under_way in record {
          permissions = rw (tally-lost carries_permission (λ i n. refl) ms ms' l) u.permissions;
          requests = λ k. rw (tally-lost (is_request_of k) (λ i n. refl) ms ms' l) (u.requests k);
          hand_overs = rw (tally-lost (is_hand_over t.holder o.owner t.grant) (λ i n. refl) ms ms' l) u.hand_overs;
          fit = all-lost _ (λ i n z. z) ms ms' l u.fit;
          ordered = ordered-lost ms ms' l u.ordered;
        };
      };
      inquiries_fit = s.inquiries_fit;
      free_queue_empty = s.free_queue_empty;
      owed = record {
        fail_owed = λ k a b c z. s.owed.fail_owed k a b c (let w = tally-more (is_fail_for k (t.ask k)) (λ i n e. counts k i n e) ms ms' l in omega arith);
        inquire_owed = rw (tally-lost (is_inquire o.owner t.grant) (λ i n. refl) ms ms' l) s.owed.inquire_owed;
        ascending = λ k. ascending-lost k (t.inquired k) ms ms' l (s.owed.ascending k);
      };
    },
  )
    where
      counts : (k i n : ℕ) → is_fail_for k (t.ask k) (fail i n) ≡ true → is_fail_for k (t.ask k) (fail i 0) ≡ true
      counts k i n e = and-true (eqb k i) true (and_split (eqb k i) _ e).0 refl
