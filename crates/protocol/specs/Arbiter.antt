-- Document 01, "One event": what the arbiter does with a request, a release or a yield. Each rule has the name that it has in the
-- crate `model`, but for a release with an heir, which is `on_hand_over` here. It starts when the message is off the list, and appends
-- what it sends.
use Rattle.std.specs.Prelude.{ℕ, zero, suc, Bool, not, ◌&&◌, cond, eqb}
use Rattle.basics.specs.Helpers.{update}
use Rattle.protocol.specs.Ask.{Ask, no_ask, is_no_ask}
use Rattle.protocol.specs.Message.{Message, reply, inquire, fail, transfer}
use Rattle.protocol.specs.Setting.{Setting}
use Rattle.protocol.specs.Local.{Local, View, view, send, with_arbiter, with_queued}

-- "If n = g and k is the holder"
abbrev pub from_holder : Local → ℕ → ℕ → Bool
from_holder t k n = eqb n t.grant && eqb k t.holder

-- "If n = g + 1, no heir is named and k is queued, the release was early"
abbrev pub is_early : Local → ℕ → ℕ → Bool
is_early t k n = eqb n (suc t.grant) && not (is_no_ask (t.queued k))

-- "the heir leaves the queue, g + 1, the heir is holder"
abbrev pub held_by_heir : Local → ℕ → Local
held_by_heir t x = with_arbiter t (suc t.grant) x (t.queued x) (update t.queued x no_ask)

-- a fail to site k, for its queued ask
abbrev pub fail_to : Local → ℕ → Message
fail_to t k = fail k (t.queued k).number

module _ (p : Setting) where
  -- queued site k comes before queued site h
  abbrev pub goes_first : (ℕ → Ask) → ℕ → ℕ → Bool
  goes_first q k h = p.comes_before (q k) k (q h) h

  -- the head, once site k is looked at: h is the head of the sites below k, 0 none
  abbrev pub head_with : (ℕ → Ask) → ℕ → ℕ → ℕ
  head_with q k h =
      cond (is_no_ask (q k)) h
      (cond (eqb h 0) k
      (cond (goes_first q k h) k h))

  -- "The head is the queued site that comes before all others queued": of the sites 1 to n; 0 where none is queued
  unfoldable pub head : (ℕ → Ask) → ℕ → ℕ
  head q zero = 0
  head q (suc n) = head_with q (suc n) (head q n)

  abbrev pub head_of : (ℕ → Ask) → ℕ
  head_of q = head q p.size

  -- queued site k comes before the holder
  abbrev pub before_holder : Local → ℕ → Bool
  before_holder t k = p.comes_before (t.queued k) k t.holder_ask t.holder

  -- "To grant k: off the queue if there, g + 1, holder k with the sequence number of the request being delivered, else the one
  -- queued, reply (about b, number g) to k; if the queue isn't empty, transfer naming the head to k."
  unfoldable pub granted : View → ℕ → Ask → View
  granted v k a =
      let t = with_arbiter v.tables (suc v.tables.grant) k a (update v.tables.queued k no_ask) in
      let w = send (view t v.messages) (reply p.arbiter k t.grant) in
      let h = head_of t.queued in
      cond (eqb h 0) w (send w (transfer k h t.grant))

  -- "the head, if any, is granted"
  unfoldable pub granted_head : View → View
  granted_head v =
      let h = head_of v.tables.queued in
      cond (eqb h 0) v (granted v h (v.tables.queued h))

  -- "fail to the former head (before k was queued), if there was one other than k and it comes before the holder"
  abbrev pub former_told : Local → ℕ → ℕ → Bool
  former_told t k former = not (eqb former 0) && (not (eqb former k) && before_holder t former)

  unfoldable pub fail_former : View → ℕ → ℕ → View
  fail_former v k former = cond (former_told v.tables k former) (send v (fail_to v.tables former)) v

  -- "then inquire to the holder if k comes before it, else fail to k"
  unfoldable pub inquire_or_fail : View → ℕ → View
  inquire_or_fail v k = cond (before_holder v.tables k) (send v (inquire v.tables.holder v.tables.grant)) (send v (fail_to v.tables k))

  -- "If k isn't the head: fail to k. If it is: fail to the former head ...; transfer naming k to the holder; then inquire ...": k has
  -- been queued, former was the head before
  unfoldable pub answers : View → ℕ → ℕ → View
  answers v k former =
      cond (eqb (head_of v.tables.queued) k)
      (inquire_or_fail (send (fail_former v k former) (transfer v.tables.holder k v.tables.grant)) k)
      (send v (fail_to v.tables k))

  -- "Otherwise k is queued."
  unfoldable pub queued_up : View → ℕ → Ask → View
  queued_up v k a = answers (view (with_queued v.tables k a) v.messages) k (head_of v.tables.queued)

  -- "Request from k: ... If arbiter b has no holder, it grants k. Otherwise k is queued."
  unfoldable pub on_request : View → ℕ → Ask → View
  on_request v k a = cond (eqb v.tables.holder 0) (granted v k a) (queued_up v k a)

  -- "k leaves the queue, g + 1, the holder is cleared, the head, if any, is granted."
  unfoldable pub early_release : View → ℕ → View
  early_release v k = granted_head (view (with_arbiter v.tables (suc v.tables.grant) 0 no_ask (update v.tables.queued k no_ask)) v.messages)

  -- "Release from k with number n", no heir named: "the holder is cleared and the head, if any, is granted"; "Anything else changes
  -- nothing (a late release)."
  unfoldable pub on_release : View → ℕ → ℕ → View
  on_release v k n =
      cond (from_holder v.tables k n) (granted_head (view (with_arbiter v.tables v.tables.grant 0 no_ask v.tables.queued) v.messages))
      (cond (is_early v.tables k n) (early_release v k)
      v)

  -- "with a queued heir, the heir leaves the queue, g + 1, the heir is holder, and if the queue isn't empty a transfer naming the
  -- head goes to it, then an inquire if the head comes before it"
  unfoldable pub heir_takes_over : View → ℕ → View
  heir_takes_over v x =
      let t = held_by_heir v.tables x in
      let h = head_of t.queued in
      let w = send (view t v.messages) (transfer x h t.grant) in
      cond (eqb h 0) (view t v.messages)
      (cond (before_holder t h) (send w (inquire x t.grant)) w)

  -- "Release from k with number n" that names the heir x
  unfoldable pub on_hand_over : View → ℕ → ℕ → ℕ → View
  on_hand_over v k x n =
      cond (from_holder v.tables k n)
      (cond (is_no_ask (v.tables.queued x)) v (heir_takes_over v x))
      v

  -- "Yield with number g from the holder: the holder goes back on the queue with its sequence number, the head is granted."
  unfoldable pub on_yield : View → ℕ → ℕ → View
  on_yield v k n =
      cond (from_holder v.tables k n)
      (granted_head (view (with_arbiter v.tables v.tables.grant 0 no_ask (update v.tables.queued k v.tables.holder_ask)) v.messages))
      v
