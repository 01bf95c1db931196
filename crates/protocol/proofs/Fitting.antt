-- How a message fits the tables: what a message says by its kind, and one law of how it still fits after a change.
use Prim.Native.Nat.{ℕ, ◌+◌, ◌≤◌}
use mathlib.Core.Path.{◌≡◌, refl, sym, ◌∙◌}
use mathlib.Core.Logic.{◌⊎◌, inl, inr, ◌≢◌}
use mathlib.Core.Bool.{true, false, ◌&&◌, ◌||◌, cond}
use mathlib.Core.List.{List}
use native.Mathlib.Omega.{arith}
use lib.Dec.{eqb}
use borrow.Author.Tests.{eqb-true, eq-eqb}
use Rattle.basics.specs.Helpers.{tally, All}
use Rattle.protocol.specs.Ask.{Ask}
use Rattle.protocol.specs.Message.{Message, request, reply, release, hand_over, inquire, fail, yield, transfer, REPLY, RELEASE, YIELD, HANDOVER, kind}
use Rattle.protocol.specs.Setting.{Setting}
use Rattle.protocol.specs.Local.{WAITING, Local}
use Rattle.basics.proofs.Basics.{by_bool, clash, and_split}
use Rattle.basics.proofs.Lists.{all-map-not, all_none}
use Rattle.protocol.proofs.Invariant.{Ghost, FREE, OUT, YIELDED, RELEASED, ghost, site_of, number_of, heir_of, is_for_number, carries_permission, is_request_of, is_return_of, is_hand_over, is_inquire_to, Situation, situation, Fits, ArbiterRow, Core}

-- the stage of the permission that a message carries
abbrev pub stage_by : ℕ → ℕ
stage_by c = cond (eqb c REPLY) OUT (cond (eqb c YIELD) YIELDED RELEASED)

-- a message that carries the permission is a reply at stage OUT, a release at stage RELEASED
kind_at : (c st : ℕ) → (eqb c REPLY || (eqb c YIELD || eqb c RELEASE)) ≡ true → st ≡ stage_by c → (st ≡ OUT → c ≡ REPLY) × (st ≡ RELEASED → c ≡ RELEASE)
kind_at c st e z = by_bool (eqb c REPLY)
    (λ a. let w = rw a at z in (λ u. eqb-true c REPLY a, λ u. absurd (omega arith)))
    (λ a. by_bool (eqb c YIELD)
    (λ b. let w = rw (a, b) at z in (λ u. absurd (omega arith), λ u. absurd (omega arith)))
    (λ b. let w = rw (a, b) at z in (λ u. absurd (omega arith), λ u. eqb-true c RELEASE (rw (a, b) at e))))

-- a hand-over of h is a return of h
pub hand_over-returns : (h x n : ℕ) (m : Message) → is_hand_over h x n m ≡ true → is_return_of h m ≡ true
hand_over-returns h x n m e =
    let w = and_split (eqb (kind m) HANDOVER) (eqb h (site_of m) && (eqb x (heir_of m) && eqb n (number_of m))) e in
    rw (eqb-true (kind m) HANDOVER w.0) (and_split (eqb h (site_of m)) (eqb x (heir_of m) && eqb n (number_of m)) w.1).0

module _ (p : Setting) where
  -- the ghosts put to the names at hand
  pub fix : (t : Local) (o : Ghost) (ms : List Message) (b e s : ℕ) → b ≡ o.owner → e ≡ o.ahead → s ≡ o.stage → Core p t o ms → Core p t (ghost b e s o.known) ms
  fix t o ms b e s x y z c = rw (x, y, z) c

  module _ (s : Situation) where
    -- R1: a request finds its site waiting, with that ask
    pub fits-request : (k : ℕ) (m : Message) → Fits p s m → is_request_of k m ≡ true → (s.mode k ≡ WAITING) × (p.member k ≡ true)
    unfolding Fits
    fits-request k (request i n) a e = rw (eqb-true k i e) (a.0, a.2)
    fits-request k (reply f i n) a e = clash false e refl
    fits-request k (release i n) a e = clash false e refl
    fits-request k (hand_over i x n) a e = clash false e refl
    fits-request k (inquire i n) a e = clash false e refl
    fits-request k (fail i n) a e = clash false e refl
    fits-request k (yield i n) a e = clash false e refl
    fits-request k (transfer i x n) a e = clash false e refl

    -- T1, T3, T4: what carries the permission has its owner and number, and the stage of its kind
    pub fits-permission : (m : Message) → Fits p s m → carries_permission m ≡ true → (site_of m ≡ s.owner) × (number_of m ≡ s.grant + s.ahead) × (s.stage ≡ stage_by (kind m))
    unfolding Fits
    fits-permission (request i n) a e = clash false e refl
    fits-permission (reply f i n) a e = (a.0, a.1, a.2)
    fits-permission (release i n) a e = a
    fits-permission (hand_over i x n) a e = clash false e refl
    fits-permission (inquire i n) a e = clash false e refl
    fits-permission (fail i n) a e = clash false e refl
    fits-permission (yield i n) a e = a
    fits-permission (transfer i x n) a e = clash false e refl

    -- what carries the permission is the owner's reply at stage OUT, its release at stage RELEASED
    pub permission-replied : (m : Message) → Fits p s m → s.stage ≡ OUT → carries_permission m ≡ true → is_for_number REPLY s.owner (s.grant + s.ahead) m ≡ true
    permission-replied m a z e =
        let w = fits-permission m a e in
        rw ((kind_at (kind m) s.stage e w.2).0 z, eq-eqb s.owner (site_of m) (sym w.0), eq-eqb (s.grant + s.ahead) (number_of m) (sym w.1))

    pub permission-released : (m : Message) → Fits p s m → s.stage ≡ RELEASED → carries_permission m ≡ true → is_for_number RELEASE s.owner (s.grant + s.ahead) m ≡ true
    permission-released m a z e =
        let w = fits-permission m a e in
        rw ((kind_at (kind m) s.stage e w.2).1 z, eq-eqb s.owner (site_of m) (sym w.0), eq-eqb (s.grant + s.ahead) (number_of m) (sym w.1))

    pub permission-returns : (m : Message) → Fits p s m → s.stage ≡ RELEASED → carries_permission m ≡ true → is_return_of s.owner m ≡ true
    permission-returns m a z e =
        let w = fits-permission m a e in
        rw ((kind_at (kind m) s.stage e w.2).1 z) (eq-eqb s.owner (site_of m) (sym w.0))

    -- T5: a hand-over of the current number is the one that the arbiter has not heard of
    pub fits-hand_over : (m : Message) → Fits p s m → eqb (kind m) HANDOVER ≡ true → number_of m ≡ s.grant → s.ahead ≡ 1
    unfolding Fits
    fits-hand_over (request i n) a e z = clash false e refl
    fits-hand_over (reply f i n) a e z = clash false e refl
    fits-hand_over (release i n) a e z = clash false e refl
    fits-hand_over (hand_over i x n) a e z = (a.1 z).2
    fits-hand_over (inquire i n) a e z = clash false e refl
    fits-hand_over (fail i n) a e z = clash false e refl
    fits-hand_over (yield i n) a e z = clash false e refl
    fits-hand_over (transfer i x n) a e z = clash false e refl

    -- T8: no inquire has a number past the grant number
    pub fits-inquire : (k : ℕ) (m : Message) → Fits p s m → is_inquire_to k m ≡ true → number_of m ≤ s.grant
    unfolding Fits
    fits-inquire k (request i n) a e = clash false e refl
    fits-inquire k (reply f i n) a e = clash false e refl
    fits-inquire k (release i n) a e = clash false e refl
    fits-inquire k (hand_over i x n) a e = clash false e refl
    fits-inquire k (inquire i n) a e = a.1
    fits-inquire k (fail i n) a e = clash false e refl
    fits-inquire k (yield i n) a e = clash false e refl
    fits-inquire k (transfer i x n) a e = clash false e refl

    -- How a message fits after a change. Its request still finds the site; the permission it carries keeps owner, number and stage;
    -- grant numbers only grow; and what names the grant number of now is looked at anew.
    pub fits-change : (s' : Situation) (m : Message)
        → ((k : ℕ) → is_request_of k m ≡ true → (s'.mode k ≡ s.mode k) × (s'.ask k ≡ s.ask k))
        → (carries_permission m ≡ true → (s.owner ≡ s'.owner) × (s.grant + s.ahead ≡ s'.grant + s'.ahead) × (s'.stage ≡ s.stage))
        → s.grant ≤ s'.grant
        → ((k x : ℕ) → s.grant ≡ s'.grant → (k ≡ s.holder) × (x ≡ s.owner) × (s.ahead ≡ 1) → (k ≡ s'.holder) × (x ≡ s'.owner) × (s'.ahead ≡ 1))
        → ((k x : ℕ) → s.grant ≡ s'.grant → s'.holder ≢ 0 → (s.holder ≢ 0 → (k ≡ s.holder) × ((s.queued x).number ≢ 0)) → (k ≡ s'.holder) × ((s'.queued x).number ≢ 0))
        → Fits p s m → Fits p s' m
    unfolding Fits
    fits-change s' (request k n) r c l h t a = let w = r k (eq-eqb k k refl) in (w.0 ∙ a.0, w.1 ∙ a.1, a.2)
    fits-change s' (reply f k n) r c l h t a = let w = c refl in (a.0 ∙ w.0, a.1 ∙ w.1, w.2 ∙ a.2, a.3, a.4)
    fits-change s' (release k n) r c l h t a = let w = c refl in (a.0 ∙ w.0, a.1 ∙ w.1, w.2 ∙ a.2)
    fits-change s' (hand_over k x n) r c l h t a = (omega arith, λ u. h k x (omega arith) (a.1 (omega arith)), a.2, a.3, a.4)
    fits-change s' (inquire k n) r c l h t a = (a.0, omega arith, a.2)
    fits-change s' (fail k n) r c l h t a = a
    fits-change s' (yield k n) r c l h t a = let w = c refl in (a.0 ∙ w.0, a.1 ∙ w.1, w.2 ∙ a.2)
    fits-change s' (transfer k x n) r c l h t a = (a.0, omega arith, λ u v. t k x (omega arith) v (a.2 (omega arith)), a.3, a.4)

    -- no request of a site that is no member or does not wait
    pub no-request : (b : ℕ) (ms : List Message) → ((s.mode b ≢ WAITING) ⊎ (p.member b ≡ false)) → All (Fits p s) ms → tally (is_request_of b) ms ≡ 0
    no-request b ms h a = all_none _ (is_request_of b) ms a (λ m f. by_bool (is_request_of b m)
        (λ e. let w = fits-request b m f e in elim h [ inl z ↦ absurd (z w.0) | inr z ↦ clash (p.member b) w.1 z ])
        (λ e. e))

  -- the stage changes, and no message carries the permission
  pub all-stage : (t : Local) (o d st st' : ℕ) (ms : List Message) → tally carries_permission ms ≡ 0 → All (Fits p (situation t o d st)) ms → All (Fits p (situation t o d st')) ms
  all-stage t o d st st' ms c a = all-map-not _ _ carries_permission ms c
      (λ m e f. fits-change _ _ m (λ k r. (refl, refl)) (λ u. clash (carries_permission m) u e) (omega arith) (λ k x u v. v) (λ k x u v w. w v) f) a

  -- the mode and the ask of b change, and no request of b is under way
  pub all-mode : (s : Situation) (mode : ℕ → ℕ) (ask : ℕ → Ask) (b : ℕ) (ms : List Message) → ((k : ℕ) → k ≢ b → (mode k ≡ s.mode k) × (ask k ≡ s.ask k)) → tally (is_request_of b) ms ≡ 0 → All (Fits p s) ms
      → All (Fits p (record { grant = s.grant; holder = s.holder; queued = s.queued; mode = mode; ask = ask; owner = s.owner; ahead = s.ahead; stage = s.stage })) ms
  all-mode s mode ask b ms f c a = all-map-not _ _ (is_request_of b) ms c
      (λ m e h. fits-change _ _ m (λ k r. f k (λ z. clash (is_request_of b m) (rw z at r) e)) (λ z. (refl, refl, refl)) (omega arith) (λ k x z v. v) (λ k x z v w. w v) h) a

  -- the arbiter's row does not tell the stages apart at which the permission is not free
  pub row-stage : {g holder : ℕ} {holder_ask : Ask} {q : ℕ → Ask} {o d st : ℕ} (st' : ℕ) → st ≢ FREE → st' ≢ FREE → st' ≤ RELEASED → ArbiterRow p g holder holder_ask q o d st → ArbiterRow p g holder holder_ask q o d st'
  row-stage st' a b l r = record {
    ahead_by_one = r.ahead_by_one;
    owner_is_holder = r.owner_is_holder;
    handed_over = r.handed_over;
    when_free = λ z. absurd (b z);
    when_taken = λ z. r.when_taken a;
    stage_range = l;
    holder_not_queued = r.holder_not_queued;
  }
