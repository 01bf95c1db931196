-- Document 01, "One event": what an arbiter does with a request, a release or a yield. The arbiter is the desk's own site, b.
use Rattle.std.specs.Prelude.{ℕ, ◌+◌, max, Bool, not, ◌&&◌, cond, List, [], ◌∷◌, ◌++◌, eqb}
use Rattle.rig.specs.declared.Desk.{Desk}
use Rattle.rig.specs.declared.Message.{Message}
use Rattle.rig.specs.Messages.{reply, inquire, fail, transfer}
use Rattle.model.specs.Tables.{put}
use Rattle.model.specs.Priority.{Key, key, comes_before, queued_key, head}
use Rattle.model.specs.Desk.{Effect, effect, queued_at, with_site, with_arbiter}

abbrev pub grant_of : Desk → ℕ
grant_of d = d.arbiter.grant

abbrev pub holder_of : Desk → ℕ
holder_of d = d.arbiter.holder

-- the holder's priority, and that of a queued site
abbrev pub holder_key : Desk → Key
holder_key d = key d.arbiter.seq (holder_of d)

abbrev pub site_key : Desk → ℕ → Key
site_key d k = queued_key d.queued k

-- the head of the queue, 0 where it is empty
unfoldable pub head_of : Desk → ℕ
head_of d = head d.queued d.size

-- the permission is held by k, with grant number g; it asked with sequence number n
abbrev pub held_by : Desk → ℕ → ℕ → ℕ → List ℕ → Desk
held_by d g k n q = with_arbiter d (record { grant = g; holder = k; seq = n }) q

-- there is no holder
abbrev pub free : Desk → ℕ → List ℕ → Desk
free d g q = held_by d g 0 0 q

-- site k is queued with sequence number n
abbrev pub with_queued : Desk → ℕ → ℕ → Desk
with_queued d k n = with_arbiter d d.arbiter (put d.queued k n)

-- "off the queue", "leaves the queue"
abbrev pub without : Desk → ℕ → List ℕ
without d k = put d.queued k 0

-- "Transfers and inquires carry the holder's g."
abbrev pub transfer_of : Desk → ℕ → Message
transfer_of d k = transfer d.number (holder_of d) k (grant_of d)

abbrev pub inquire_of : Desk → Message
inquire_of d = inquire d.number (holder_of d) (grant_of d)

-- Request 2.3: "a fail carries the sequence number of the ask it is about", the one with which k is queued
abbrev pub fail_to : Desk → ℕ → Message
fail_to d k = fail d.number k (queued_at d k)

-- "if the queue isn't empty, transfer naming the head to k", the holder
unfoldable pub next_heir : Desk → List Message
next_heir d = cond (eqb (head_of d) 0) [] (transfer_of d (head_of d) ∷ [])

-- "To grant k: off the queue if there, g + 1, holder k with the sequence number of the request being delivered, else the one
-- queued, reply (about b, number g) to k; if the queue isn't empty, transfer naming the head to k."
unfoldable pub granted : Desk → ℕ → ℕ → Effect
granted d k n =
    let u = held_by d (grant_of d + 1) k n (without d k) in
    effect u (reply u.number k u.number (grant_of u) ∷ next_heir u)

-- "the head, if any, is granted"
unfoldable pub granted_head : Desk → Effect
granted_head d = cond (eqb (head_of d) 0) (effect d []) (granted d (head_of d) (queued_at d (head_of d)))

-- "b's clock becomes the larger of itself and the number"
unfoldable pub clock_raised : Desk → ℕ → Desk
clock_raised d n = with_site d (record { mode = d.site.mode; clock = max d.site.clock n })

-- "fail to the former head (before k was queued), if there was one other than k and it comes before the holder"
abbrev pub former_told : Desk → ℕ → ℕ → Bool
former_told d k former = not (eqb former 0) && (not (eqb former k) && comes_before (site_key d former) (holder_key d))

unfoldable pub fail_former : Desk → ℕ → ℕ → List Message
fail_former d k former = cond (former_told d k former) (fail_to d former ∷ []) []

-- "then inquire to the holder if k comes before it, else fail to k"
unfoldable pub inquire_or_fail : Desk → ℕ → Message
inquire_or_fail d k = cond (comes_before (site_key d k) (holder_key d)) (inquire_of d) (fail_to d k)

-- "If k isn't the head: fail to k. If it is: fail to the former head ...; transfer naming k to the holder; then inquire ...":
-- k has been queued, former was the head before
unfoldable pub answers : Desk → ℕ → ℕ → List Message
answers d k former =
    cond (eqb (head_of d) k)
    (fail_former d k former ++ (transfer_of d k ∷ inquire_or_fail d k ∷ []))
    (fail_to d k ∷ [])

-- "Otherwise k is queued."
unfoldable pub queued_up : Desk → ℕ → ℕ → Effect
queued_up d k n = let u = with_queued d k n in effect u (answers u k (head_of d))

-- "Request from k: ... If arbiter b has no holder, it grants k. Otherwise k is queued."
unfoldable pub on_request : Desk → ℕ → ℕ → Effect
on_request d k n =
    let u = clock_raised d n in
    cond (eqb (holder_of u) 0) (granted u k n) (queued_up u k n)

-- "then an inquire if the head comes before it", the holder
unfoldable pub inquire_if_before : Desk → ℕ → List Message
inquire_if_before d h = cond (comes_before (site_key d h) (holder_key d)) (inquire_of d ∷ []) []

-- "if the queue isn't empty a transfer naming the head goes to it, then an inquire if the head comes before it"
unfoldable pub head_named : Desk → List Message
head_named d = cond (eqb (head_of d) 0) [] (transfer_of d (head_of d) ∷ inquire_if_before d (head_of d))

-- "with a queued heir, the heir leaves the queue, g + 1, the heir is holder, and ...": with the sequence number that was queued
unfoldable pub heir_takes_over : Desk → ℕ → Effect
heir_takes_over d x = let u = held_by d (grant_of d + 1) x (queued_at d x) (without d x) in effect u (head_named u)

-- the release of the holder, x the heir it names, 0 none: "with no heir, the holder is cleared and the head, if any, is granted"
unfoldable pub holder_releases : Desk → ℕ → Effect
holder_releases d x =
    cond (eqb x 0) (granted_head (free d (grant_of d) d.queued))
    (cond (eqb (queued_at d x) 0) (effect d []) (heir_takes_over d x))

-- "If n = g and k is the holder"
unfoldable pub from_holder : Desk → ℕ → ℕ → Bool
from_holder d k n = eqb n (grant_of d) && eqb k (holder_of d)

-- "If n = g + 1, no heir is named and k is queued, the release was early"
unfoldable pub is_early : Desk → ℕ → ℕ → ℕ → Bool
is_early d k x n = eqb n (grant_of d + 1) && (eqb x 0 && not (eqb (queued_at d k) 0))

-- "k leaves the queue, g + 1, the holder is cleared, the head, if any, is granted."
unfoldable pub early_release : Desk → ℕ → Effect
early_release d k = granted_head (free d (grant_of d + 1) (without d k))

-- "Release from k with number n", x the heir it names, 0 none. "Anything else changes nothing (a late release)."
unfoldable pub on_release : Desk → ℕ → ℕ → ℕ → Effect
on_release d k x n =
    cond (from_holder d k n) (holder_releases d x)
    (cond (is_early d k x n) (early_release d k)
    (effect d []))

-- "Yield with number g from the holder: the holder goes back on the queue with its sequence number, the head is granted."
unfoldable pub on_yield : Desk → ℕ → ℕ → Effect
on_yield d k n =
    cond (from_holder d k n) (granted_head (free d (grant_of d) (put d.queued k d.arbiter.seq)))
    (effect d [])
