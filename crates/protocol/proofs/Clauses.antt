-- The clauses of the invariant that speak of the tables and messages of one arbiter alone, with no ghosts: S1 to S4 of the sites, A1
-- to A3 of the arbiter, T1 to T8 of where the permission is, R1 to R4 of where each ask is, L1 to L3 of what is owed. They are what
-- a reader of a reached state may use; ClausesHold.antt shows that they follow from the invariant.
use Prim.Native.Nat.{ℕ, suc, ◌+◌, ◌≤◌, ◌<◌}
use mathlib.Core.Path.{◌≡◌}
use mathlib.Core.Logic.{◌⊎◌, ◌≢◌}
use mathlib.Core.Bool.{Bool, true, false, not, ◌&&◌, ◌||◌, cond}
use lib.Dec.{eqb}
use Rattle.basics.specs.Helpers.{count, tally, All}
use Rattle.protocol.specs.Ask.{no_ask}
use Rattle.protocol.specs.Message.{Message, request, reply, release, hand_over, inquire, fail, yield, transfer, REPLY, RELEASE, HANDOVER, kind, is_out, is_back}
use Rattle.protocol.specs.Setting.{Setting}
use Rattle.protocol.specs.Local.{REST, WAITING, INSIDE, View}
use Rattle.protocol.specs.Arbiter.{head_of, before_holder}
use Rattle.protocol.proofs.Invariant.{site_of, number_of, is_for, is_for_number, is_request_of, is_hand_over, is_fail_for, is_inquire, Ordered, Ascending}

-- a reply to k with number n; any reply to k
abbrev pub is_reply : ℕ → ℕ → Message → Bool
is_reply k n m = is_for_number REPLY k n m

abbrev pub is_reply_to : ℕ → Message → Bool
is_reply_to k m = is_for REPLY k m

-- a release of k without heir, number n; any release of k, number n
abbrev pub is_release : ℕ → ℕ → Message → Bool
is_release k n m = is_for_number RELEASE k n m

abbrev pub is_any_release : ℕ → ℕ → Message → Bool
is_any_release k n m = (eqb (kind m) RELEASE || eqb (kind m) HANDOVER) && (eqb k (site_of m) && eqb n (number_of m))

module _ (p : Setting) where
  -- the holder has left and handed on to x, and the arbiter has not heard
  abbrev pub HandOverTo : View → ℕ → Type 0
  HandOverTo v x = (v.tables.holder ≢ 0) × (0 < tally (is_hand_over v.tables.holder x v.tables.grant) v.messages)

  -- R1, T1, T4, T5, T8, T3 and T6, message by message, with the membership of every site named and the range of every number
  unfoldable pub FitsTables : View → Message → Type 0
  FitsTables v (request k a) = (v.tables.mode k ≡ WAITING) × (v.tables.ask k ≡ a) × (1 ≤ a.number) × (p.member k ≡ true)
  FitsTables v (reply f k n) =
      (((k ≡ v.tables.holder) × (n ≡ v.tables.grant) × (v.tables.holder_ask ≡ v.tables.ask k))
      ⊎ ((n ≡ suc v.tables.grant) × (v.tables.queued k ≡ v.tables.ask k) × HandOverTo v k))
      × (v.tables.mode k ≡ WAITING) × (1 ≤ n) × (p.member k ≡ true) × (1 ≤ f) × (f ≤ p.size) × (v.tables.held k ≡ 0)
  FitsTables v (release k n) =
      (((k ≡ v.tables.holder) × (n ≡ v.tables.grant)) ⊎ ((n ≡ suc v.tables.grant) × ((v.tables.queued k).number ≢ 0) × HandOverTo v k))
      × (1 ≤ n) × (p.member k ≡ true)
  FitsTables v (hand_over k x n) =
      (n ≤ v.tables.grant)
      × (n ≡ v.tables.grant → v.tables.holder ≢ 0 → (k ≡ v.tables.holder) × ((v.tables.queued x).number ≢ 0)
      × ((0 < tally (is_reply x (suc v.tables.grant)) v.messages) ⊎ ((v.tables.held x ≡ suc v.tables.grant) ⊎ (0 < tally (is_release x (suc v.tables.grant)) v.messages))))
      × (p.member k ≡ true) × (p.member x ≡ true) × (1 ≤ n)
  FitsTables v (inquire k n) = (1 ≤ n) × (n ≤ v.tables.grant) × (p.member k ≡ true)
  FitsTables v (fail k n) = p.member k ≡ true
  FitsTables v (yield k n) =
      (k ≡ v.tables.holder) × (n ≡ v.tables.grant) × (v.tables.mode k ≡ WAITING) × (v.tables.holder_ask ≡ v.tables.ask k) × (v.tables.failed k ≡ true) × (1 ≤ n) × (p.member k ≡ true)
  FitsTables v (transfer k x n) =
      (1 ≤ n) × (n ≤ v.tables.grant) × (n ≡ v.tables.grant → v.tables.holder ≢ 0 → (k ≡ v.tables.holder) × ((v.tables.queued x).number ≢ 0))
      × (p.member k ≡ true) × (p.member x ≡ true)

  pub record Clauses (v : View) : Type 0 where
    -- at rest nothing is held, inherited or remembered
    pub S1 : (k : ℕ) → v.tables.mode k ≡ REST → (v.tables.held k ≡ 0) × (v.tables.heir k ≡ 0) × (v.tables.inquired k ≡ 0)
    -- who is inside holds
    pub S2 : (k : ℕ) → v.tables.mode k ≡ INSIDE → p.member k ≡ true → v.tables.held k ≢ 0
    -- an inquire remembered beside a held number is of that number, and the site is not failed
    pub S4 : (k : ℕ) → v.tables.held k ≢ 0 → v.tables.inquired k ≢ 0 → (v.tables.inquired k ≡ v.tables.held k) × (v.tables.failed k ≡ false)
    -- no holder, no queue
    pub A1 : v.tables.holder ≡ 0 → (k : ℕ) → (v.tables.queued k).number ≡ 0
    -- the holder is not queued
    pub A2 : v.tables.queued v.tables.holder ≡ no_ask
    -- exactly one place
    pub A3 : cond (eqb v.tables.holder 0) 1 0 + tally is_out v.messages + count (λ k. not (eqb (v.tables.held k) 0)) p.size + tally is_back v.messages ≡ 1
    -- every message fits
    pub T : All (FitsTables v) v.messages
    -- who holds is the holder with the grant number, or the heir of a hand-over not heard of, with the next number
    pub T2 : (k : ℕ) → v.tables.held k ≢ 0 → (((k ≡ v.tables.holder) × (v.tables.held k ≡ v.tables.grant) × (v.tables.mode k ≡ WAITING → v.tables.holder_ask ≡ v.tables.ask k))
        ⊎ ((v.tables.held k ≡ suc v.tables.grant) × ((v.tables.queued k).number ≢ 0) × (v.tables.mode k ≡ WAITING → v.tables.queued k ≡ v.tables.ask k) × HandOverTo v k)) × (p.member k ≡ true)
    -- an heir stands at the holder, which holds the grant number, and is queued; both have the arbiter in their set
    pub T7 : (k : ℕ) → v.tables.heir k ≢ 0 → (k ≡ v.tables.holder) × (v.tables.held k ≡ v.tables.grant) × ((v.tables.queued (v.tables.heir k)).number ≢ 0) × (p.member k ≡ true) × (p.member (v.tables.heir k) ≡ true)
    -- a remembered number is no later than the grant number; only a waiting member remembers one
    pub T8 : (k : ℕ) → v.tables.inquired k ≢ 0 → (v.tables.inquired k ≤ v.tables.grant) × (p.member k ≡ true) × (v.tables.mode k ≡ WAITING)
    -- at most one request of a site
    pub R1 : (k : ℕ) → tally (is_request_of k) v.messages ≤ 1
    -- no request before a release or yield of the same site
    pub R2 : Ordered v.messages
    -- a waiting site without a request under way is the holder or queued, with its current ask
    pub R3 : (k : ℕ) → v.tables.mode k ≡ WAITING → p.member k ≡ true → tally (is_request_of k) v.messages ≡ 0
        → ((v.tables.holder ≡ k) × (v.tables.holder_ask ≡ v.tables.ask k) × ((v.tables.queued k).number ≡ 0) × (tally (is_any_release k v.tables.grant) v.messages ≡ 0))
        ⊎ ((v.tables.holder ≢ k) × (v.tables.queued k ≡ v.tables.ask k) × (tally (is_release k (suc v.tables.grant)) v.messages ≡ 0))
    -- any other site that is queued or the holder has released
    pub R4 : (k : ℕ) → p.member k ≡ true → (v.tables.mode k ≡ REST) ⊎ ((v.tables.mode k ≡ WAITING) × (0 < tally (is_request_of k) v.messages))
        → ((v.tables.queued k).number ≢ 0 → 0 < tally (is_release k (suc v.tables.grant)) v.messages) × (v.tables.holder ≡ k → 0 < tally (is_any_release k v.tables.grant) v.messages)
    -- a queued site that has not been failed is the head and comes before the holder
    pub L1 : (k : ℕ) → v.tables.mode k ≡ WAITING → p.member k ≡ true → tally (is_request_of k) v.messages ≡ 0 → v.tables.holder ≢ k → tally (is_reply_to k) v.messages ≡ 0 → v.tables.held k ≡ 0
        → v.tables.failed k ≡ false → tally (is_fail_for k (v.tables.ask k)) v.messages ≡ 0 → (head_of p v.tables.queued ≡ k) × (before_holder p v.tables k ≡ true)
    -- a waiting holder that the head comes before is inquired
    pub L2 : v.tables.holder ≢ 0 → v.tables.mode v.tables.holder ≡ WAITING → (0 < tally (is_reply v.tables.holder v.tables.grant) v.messages) ⊎ (v.tables.held v.tables.holder ≡ v.tables.grant)
        → head_of p v.tables.queued ≢ 0 → before_holder p v.tables (head_of p v.tables.queued) ≡ true → v.tables.inquired v.tables.holder ≢ v.tables.grant
        → 0 < tally (is_inquire v.tables.holder v.tables.grant) v.messages
    -- inquires arrive in order of number
    pub L3 : (k : ℕ) → Ascending k (v.tables.inquired k) v.messages
    -- the ranges and ties of document 01: of the holder, of a queued site, of a waiting and of another site
    pub holder_range : (v.tables.holder ≢ 0 → (1 ≤ v.tables.holder_ask.number) × (1 ≤ v.tables.grant) × (p.member v.tables.holder ≡ true)) × (v.tables.holder ≡ 0 → v.tables.holder_ask ≡ no_ask)
    pub queued_member : (k : ℕ) → (v.tables.queued k).number ≢ 0 → p.member k ≡ true
    pub waiting_numbered : (k : ℕ) → v.tables.mode k ≡ WAITING → 1 ≤ (v.tables.ask k).number
    pub not_waiting_clear : (k : ℕ) → v.tables.mode k ≢ WAITING → (v.tables.ask k ≡ no_ask) × (v.tables.failed k ≡ false)

  -- every message is from or to a site that has the arbiter in its set
  pub fits-member : (v : View) (m : Message) → FitsTables v m → p.member (site_of m) ≡ true
  unfolding FitsTables
  fits-member v (request k a) f = f.3
  fits-member v (reply u k n) f = f.3
  fits-member v (release k n) f = f.2
  fits-member v (hand_over k x n) f = f.2
  fits-member v (inquire k n) f = f.2
  fits-member v (fail k n) f = f
  fits-member v (yield k n) f = f.6
  fits-member v (transfer k x n) f = f.3
