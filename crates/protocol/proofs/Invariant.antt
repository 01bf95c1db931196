-- The invariant of one arbiter, after ../../../docs/PROOF.md. It says where the permission is by four ghosts, which no rule reads:
-- the invariant claims that some values of them fit. Each record below takes as parameters just the tables that it speaks of, so an
-- event that changes other tables keeps it without a proof. The names S1 .. L3 are those of the clauses (Clauses.antt), which
-- speak of the tables and messages alone and follow from this invariant.
use Prim.Native.Nat.{ℕ, ◌+◌, ◌≤◌, ◌<◌}
use mathlib.Core.Path.{◌≡◌}
use mathlib.Core.Logic.{◌≢◌}
use mathlib.Core.Bool.{Bool, true, false, ◌&&◌, ◌||◌, cond}
use mathlib.Core.List.{List, [], ◌∷◌}
use lib.Dec.{eqb}
use Rattle.basics.specs.Helpers.{tally, All}
use Rattle.protocol.specs.Ask.{Ask, no_ask}
use Rattle.protocol.specs.Message.{Message, request, reply, release, hand_over, inquire, fail, yield, transfer, REQUEST, INQUIRE, FAIL, HANDOVER, kind, is_out, is_back}
use Rattle.protocol.specs.Setting.{Setting}
use Rattle.protocol.specs.Local.{WAITING, INSIDE, Local, View}
use Rattle.protocol.specs.Arbiter.{head_of}
use Rattle.protocol.specs.Site.{answers_ask}

-- owner: the site that has the permission, or had it last when it is on its way back; 0 while it is free.
-- ahead: 1 while a hand-over has happened that the arbiter has not heard of, else 0: the permission's number is grant + ahead.
-- stage: where the permission is, by the names below.
-- known k: 1 if k waits and the arbiter has taken its request, else 0.
pub record Ghost : Type 0 where
  pub owner : ℕ
  pub ahead : ℕ
  pub stage : ℕ
  pub known : ℕ → ℕ

-- free; travelling out in a reply; held by the owner; travelling back in a yield; travelling back in a release
abbrev pub FREE : ℕ
FREE = 0

abbrev pub OUT : ℕ
OUT = 1

abbrev pub HELD : ℕ
HELD = 2

abbrev pub YIELDED : ℕ
YIELDED = 3

abbrev pub RELEASED : ℕ
RELEASED = 4

abbrev pub ghost : ℕ → ℕ → ℕ → (ℕ → ℕ) → Ghost
ghost o d s k = record { owner = o; ahead = d; stage = s; known = k }

-- Messages by what they say

-- the site at the other end, and the sequence or grant number
abbrev pub site_of : Message → ℕ
site_of (request k a) = k
site_of (reply f k n) = k
site_of (release k n) = k
site_of (hand_over k x n) = k
site_of (inquire k n) = k
site_of (fail k n) = k
site_of (yield k n) = k
site_of (transfer k x n) = k

abbrev pub number_of : Message → ℕ
number_of (request k a) = a.number
number_of (reply f k n) = n
number_of (release k n) = n
number_of (hand_over k x n) = n
number_of (inquire k n) = n
number_of (fail k n) = n
number_of (yield k n) = n
number_of (transfer k x n) = n

-- the heir that a hand-over or a transfer names
abbrev pub heir_of : Message → ℕ
heir_of (request k a) = 0
heir_of (reply f k n) = 0
heir_of (release k n) = 0
heir_of (hand_over k x n) = x
heir_of (inquire k n) = 0
heir_of (fail k n) = 0
heir_of (yield k n) = 0
heir_of (transfer k x n) = x

-- a message of that kind from or to site k; the same with number n
abbrev pub is_for : ℕ → ℕ → Message → Bool
is_for c k m = eqb (kind m) c && eqb k (site_of m)

abbrev pub is_for_number : ℕ → ℕ → ℕ → Message → Bool
is_for_number c k n m = eqb (kind m) c && (eqb k (site_of m) && eqb n (number_of m))

abbrev pub carries_permission : Message → Bool
carries_permission m = is_out m || is_back m

abbrev pub is_request_of : ℕ → Message → Bool
is_request_of k m = is_for REQUEST k m

-- any release, or a yield, of site k
abbrev pub is_return_of : ℕ → Message → Bool
is_return_of k m = (is_back m || eqb (kind m) HANDOVER) && eqb k (site_of m)

-- the hand-over of site h to the heir x, with number n
abbrev pub is_hand_over : ℕ → ℕ → ℕ → Message → Bool
is_hand_over h x n m = eqb (kind m) HANDOVER && (eqb h (site_of m) && (eqb x (heir_of m) && eqb n (number_of m)))

-- a fail to site k for its ask a
abbrev pub is_fail_for : ℕ → Ask → Message → Bool
is_fail_for k a m = is_for FAIL k m && answers_ask a (number_of m)

abbrev pub is_inquire_to : ℕ → Message → Bool
is_inquire_to k m = is_for INQUIRE k m

abbrev pub is_inquire : ℕ → ℕ → Message → Bool
is_inquire k n m = is_inquire_to k m && eqb n (number_of m)

-- how many messages carry the permission at a stage
abbrev pub in_transit : ℕ → ℕ
in_transit s = cond (eqb s FREE) 0 (cond (eqb s HELD) 0 1)

-- R2: no request stands before a release or yield of the same site
unfoldable pub Ordered : List Message → Type 0
Ordered [] = Unit {0}
Ordered (m ∷ ms) = ((k : ℕ) → is_request_of k m ≡ true → tally (is_return_of k) ms ≡ 0) × Ordered ms

-- L3: the inquires to k have ascending numbers, none below lo
unfoldable pub Ascending : (k lo : ℕ) → List Message → Type 0
Ascending k lo [] = Unit {0}
Ascending k lo (m ∷ ms) = (is_inquire_to k m ≡ true → lo ≤ number_of m) × Ascending k (cond (is_inquire_to k m) (number_of m) lo) ms

-- What the messages are judged by.
pub record Situation : Type 0 where
  pub grant : ℕ
  pub holder : ℕ
  pub queued : ℕ → Ask
  pub mode : ℕ → ℕ
  pub ask : ℕ → Ask
  pub owner : ℕ
  pub ahead : ℕ
  pub stage : ℕ

abbrev pub situation : Local → ℕ → ℕ → ℕ → Situation
situation t o d s = record { grant = t.grant; holder = t.holder; queued = t.queued; mode = t.mode; ask = t.ask; owner = o; ahead = d; stage = s }

-- S4: a site that holds the permission and remembers an inquire remembers one of that number, and is not failed
abbrev pub InquiryFits : Local → ℕ → Type 0
InquiryFits t k = t.inquired k ≢ 0 → t.held k ≢ 0 → (t.inquired k ≡ t.held k) × (t.failed k ≡ false)

module _ (p : Setting) where
  -- Each message fits. R1 of requests; T1, T4 and T3 of replies, releases and yields, which have the permission's number and its
  -- owner and exist at one stage only; T5 of hand-overs; T8 of inquires; T6 of transfers. Every site named is a member.
  unfoldable pub Fits : Situation → Message → Type 0
  Fits s (request k a) = (s.mode k ≡ WAITING) × (s.ask k ≡ a) × (p.member k ≡ true)
  Fits s (reply f k n) = (k ≡ s.owner) × (n ≡ s.grant + s.ahead) × (s.stage ≡ OUT) × (1 ≤ f) × (f ≤ p.size)
  Fits s (release k n) = (k ≡ s.owner) × (n ≡ s.grant + s.ahead) × (s.stage ≡ RELEASED)
  Fits s (hand_over k x n) =
      (n ≤ s.grant) × (n ≡ s.grant → (k ≡ s.holder) × (x ≡ s.owner) × (s.ahead ≡ 1)) × (p.member k ≡ true) × (p.member x ≡ true) × (1 ≤ n)
  Fits s (inquire k n) = (1 ≤ n) × (n ≤ s.grant) × (p.member k ≡ true)
  Fits s (fail k n) = p.member k ≡ true
  Fits s (yield k n) = (k ≡ s.owner) × (n ≡ s.grant + s.ahead) × (s.stage ≡ YIELDED)
  Fits s (transfer k x n) =
      (1 ≤ n) × (n ≤ s.grant) × (n ≡ s.grant → s.holder ≢ 0 → (k ≡ s.holder) × ((s.queued x).number ≢ 0)) × (p.member k ≡ true) × (p.member x ≡ true)

  -- The arbiter's row.
  pub record ArbiterRow (grant holder : ℕ) (holder_ask : Ask) (queued : ℕ → Ask) (owner ahead stage : ℕ) : Type 0 where
    -- the arbiter is at most one hand-over behind
    pub ahead_by_one : ahead ≤ 1
    -- where it has heard of all, its holder is the owner
    pub owner_is_holder : ahead ≡ 0 → owner ≡ holder
    -- where it has not, the owner is another site and still queued
    pub handed_over : ahead ≢ 0 → (1 ≤ (queued owner).number) × (1 ≤ holder) × (owner ≢ holder)
    -- free: no owner, nothing unheard, no holder's ask
    pub when_free : stage ≡ FREE → (owner ≡ 0) × (ahead ≡ 0) × (holder_ask ≡ no_ask)
    -- not free: owner and holder are sites with this arbiter in their set, and the numbers are at least 1
    pub when_taken : stage ≢ FREE → (p.member owner ≡ true) × (p.member holder ≡ true) × (1 ≤ holder_ask.number) × (1 ≤ grant)
    pub stage_range : stage ≤ RELEASED
    -- A2: the holder is not queued
    pub holder_not_queued : queued holder ≡ no_ask

  -- Where each ask is.
  pub record Asks (holder_ask : Ask) (queued : ℕ → Ask) (mode : ℕ → ℕ) (ask : ℕ → Ask) (failed : ℕ → Bool) (owner ahead stage : ℕ) (known : ℕ → ℕ) : Type 0 where
    -- R3: a known ask of a site other than the owner is queued, and is its current one
    pub queued_if_known : (k : ℕ) → k ≢ owner → known k ≢ 0 → queued k ≡ ask k
    -- R4: where no ask is known, only the owner may be queued
    pub empty_if_unknown : (k : ℕ) → k ≢ owner → known k ≡ 0 → queued k ≡ no_ask
    -- R3 for the owner: its entry, as holder or in the queue, is current
    pub owner_entry : known owner ≢ 0 → (ahead ≡ 0 → holder_ask ≡ ask owner) × (ahead ≢ 0 → queued owner ≡ ask owner)
    -- T1: whoever a reply goes to still waits
    pub out_known : stage ≡ OUT → known owner ≢ 0
    -- T2: who holds the permission and does not wait for it is inside
    pub held_inside : stage ≡ HELD → known owner ≡ 0 → mode owner ≡ INSIDE
    -- T3: a site that has yielded waits and is failed; it yields only what the arbiter granted itself
    pub yielded_failed : stage ≡ YIELDED → (known owner ≢ 0) × (failed owner ≡ true) × (ahead ≡ 0)
    -- T4: a site that has released is not inside, and a new ask of it is not known yet
    pub released_left : stage ≡ RELEASED → (known owner ≡ 0) × (mode owner ≢ INSIDE)
    -- who is known waits
    pub known_waits : (k : ℕ) → known k ≢ 0 → (mode k ≡ WAITING) × (p.member k ≡ true) × (known k ≡ 1)
    -- S2: who is inside holds the permission
    pub inside_holds : (k : ℕ) → mode k ≡ INSIDE → p.member k ≡ true → (k ≡ owner) × (stage ≡ HELD)
    -- "A site not waiting has sequence number and failed mark 0, a waiting one a sequence number of at least 1"
    pub waiting_numbered : (k : ℕ) → mode k ≡ WAITING → 1 ≤ (ask k).number
    pub not_waiting_clear : (k : ℕ) → mode k ≢ WAITING → (ask k ≡ no_ask) × (failed k ≡ false)

  -- The column of the sites' tables.
  pub record Column (grant : ℕ) (queued : ℕ → Ask) (mode held heir inquired : ℕ → ℕ) (owner ahead stage : ℕ) : Type 0 where
    -- T2: only the owner holds, and only at that stage
    pub holds : (k : ℕ) → held k ≢ 0 → (k ≡ owner) × (stage ≡ HELD)
    -- T2: with the permission's number
    pub number : stage ≡ HELD → held owner ≡ grant + ahead
    -- T7: an heir stands at the owner alone, while the arbiter is not behind, and is queued
    pub heirs : (k : ℕ) → heir k ≢ 0 → (k ≡ owner) × (stage ≡ HELD) × (ahead ≡ 0) × ((queued (heir k)).number ≢ 0)
    -- T8: who remembers an inquire waits, and the number is no later than the grant number
    pub remembered : (k : ℕ) → inquired k ≢ 0 → (mode k ≡ WAITING) × (p.member k ≡ true) × (inquired k ≤ grant)

  -- The messages under way.
  pub record UnderWay (s : Situation) (known : ℕ → ℕ) (ms : List Message) : Type 0 where
    -- A3: one message carries the permission where the stage says so, else none
    pub permissions : tally carries_permission ms ≡ in_transit s.stage
    -- R1: the request of a waiting site is under way or known, not both
    pub requests : (k : ℕ) → s.mode k ≡ WAITING → p.member k ≡ true → tally (is_request_of k) ms + known k ≡ 1
    -- T5: the hand-over that the arbiter has not heard of is under way
    pub hand_overs : s.ahead ≢ 0 → 0 < tally (is_hand_over s.holder s.owner s.grant) ms
    -- T1, T3 to T6, T8, R1
    pub fit : All (Fits s) ms
    -- R2
    pub ordered : Ordered ms

  -- What is owed, so that no rig is stuck.
  pub record Owed (grant holder : ℕ) (holder_ask : Ask) (queued ask : ℕ → Ask) (failed : ℕ → Bool) (inquired : ℕ → ℕ) (owner ahead stage : ℕ) (known : ℕ → ℕ) (ms : List Message) : Type 0 where
    -- L1: a queued site that is not failed and to whom no fail for its ask is under way is the head and comes before the holder
    pub fail_owed : (k : ℕ) → known k ≢ 0 → k ≢ owner → failed k ≡ false → tally (is_fail_for k (ask k)) ms ≡ 0 → (head_of p queued ≡ k) × (p.comes_before (queued k) k holder_ask holder ≡ true)
    -- L2: where the head comes before the holder, which waits, the holder remembers an inquire or one is under way
    pub inquire_owed : ahead ≡ 0 → stage ≢ FREE → stage ≤ HELD → known owner ≢ 0 → head_of p queued ≢ 0 → p.comes_before (queued (head_of p queued)) (head_of p queued) holder_ask holder ≡ true → inquired owner ≢ grant
        → 0 < tally (is_inquire owner grant) ms
    -- L3: inquires arrive in order of number, none older than the one remembered
    pub ascending : (k : ℕ) → Ascending k (inquired k) ms

  -- the same, of the tables as a whole
  abbrev pub OwedIn : Local → Ghost → List Message → Type 0
  OwedIn t o ms = Owed t.grant t.holder t.holder_ask t.queued t.ask t.failed t.inquired o.owner o.ahead o.stage o.known ms

  abbrev pub UnderWayIn : Local → Ghost → List Message → Type 0
  UnderWayIn t o ms = UnderWay (situation t o.owner o.ahead o.stage) o.known ms

  -- what each rule keeps by itself
  pub record Core (t : Local) (o : Ghost) (ms : List Message) : Type 0 where
    pub arbiter : ArbiterRow t.grant t.holder t.holder_ask t.queued o.owner o.ahead o.stage
    pub asks : Asks t.holder_ask t.queued t.mode t.ask t.failed o.owner o.ahead o.stage o.known
    pub column : Column t.grant t.queued t.mode t.held t.heir t.inquired o.owner o.ahead o.stage
    pub under_way : UnderWayIn t o ms

  -- The invariant, with the ghosts given.
  pub record InvariantWith (v : View) (o : Ghost) : Type 0 where
    pub core : Core v.tables o v.messages
    -- S4
    pub inquiries_fit : (k : ℕ) → InquiryFits v.tables k
    -- A1: while the permission is free, the queue is empty
    pub free_queue_empty : o.stage ≡ FREE → (k : ℕ) → (v.tables.queued k).number ≡ 0
    pub owed : OwedIn v.tables o v.messages

  -- The invariant: some ghosts fit.
  abbrev pub Invariant : View → Type 0
  Invariant v = (o : Ghost) × InvariantWith v o
