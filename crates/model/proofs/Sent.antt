-- What the rules send: a property that every message has but a fail, and that the fails to a request's site and to a former head have, holds of all of it.
use Prim.Native.Nat.{ℕ, zero, suc, ◌+◌}
use mathlib.Core.Path.{◌≡◌}
use mathlib.Core.Bool.{Bool, true, false, not, ◌&&◌, cond}
use mathlib.Core.List.{List, [], ◌∷◌}
use lib.Dec.{eqb}
use borrow.Author.Tests.{eqb-true}
use Rattle.basics.specs.Helpers.{All}
use Rattle.basics.proofs.Basics.{by_bool}
use Rattle.basics.proofs.Lists.{all_append}
use Rattle.rig.specs.declared.Desk.{Desk}
use Rattle.rig.specs.declared.Message.{Message}
use Rattle.rig.specs.Messages.{REQUEST, REPLY, RELEASE, INQUIRE, FAIL, YIELD, TRANSFER, request, reply, release, inquire, yield, transfer}
use Rattle.model.specs.Priority.{comes_before}
use Rattle.model.specs.Desk.{Effect, has, waits, has_failed, held_for, heir_for, inquired_for, queued_at}
use Rattle.model.specs.Ask.{requests, asked}
use Rattle.model.specs.Leave.{hand_on, hand_ons, left}
use Rattle.model.specs.Arbiter.{grant_of, holder_of, holder_key, site_key, head_of, held_by, with_queued, without, transfer_of, inquire_of, fail_to, next_heir, granted, granted_head, clock_raised, former_told, fail_former, inquire_or_fail, answers, queued_up, on_request, inquire_if_before, head_named, heir_takes_over, holder_releases, from_holder, is_early, early_release, on_release, on_yield}
use Rattle.model.specs.Site.{yielded, all_held, taken, entered_or_yielded, takes, on_reply, yielded_or_remembered, on_inquire, must_yield, yielded_if, yielded_up_to, fail_counts, on_fail, names_held, on_transfer}
use Rattle.model.specs.Deliver.{delivered}

module _ (P : Message → Type 0) where
  -- the property of every message that is no fail
  pub record Others : Type 0 where
    pub requests : (a b n : ℕ) → P (request a b n)
    pub replies : (a b j n : ℕ) → P (reply a b j n)
    pub releases : (a b x n : ℕ) → P (release a b x n)
    pub inquires : (a b n : ℕ) → P (inquire a b n)
    pub yields : (a b n : ℕ) → P (yield a b n)
    pub transfers : (a b x n : ℕ) → P (transfer a b x n)

  -- and of the fails that a request from k with number n may bring: to k, and to the former head if it is told
  pub record Fails (d : Desk) (k n : ℕ) : Type 0 where
    pub own : P (fail_to (with_queued d k n) k)
    pub former : former_told (with_queued d k n) k (head_of d) ≡ true → P (fail_to (with_queued d k n) (head_of d))

  abbrev pub Sends : Effect → Type 0
  Sends e = All P e.sent

  none : All P []
  unfolding All
  none = tt

  one : (m : Message) → P m → All P (m ∷ [])
  unfolding All
  one m p = (p, tt)

  more : (m : Message) (ms : List Message) → P m → All P ms → All P (m ∷ ms)
  unfolding All
  more m ms p a = (p, a)

  either : (t : Bool) (xs ys : List Message) → All P xs → All P ys → All P (cond t xs ys)
  either true xs ys a b = a
  either false xs ys a b = b

  either-of : (t : Bool) (d e : Effect) → Sends d → Sends e → Sends (cond t d e)
  either-of true d e a b = a
  either-of false d e a b = b

  module _ (o : Others) where
    requests-sends : (d : Desk) (n i : ℕ) → All P (requests d n i)
    unfolding requests
    requests-sends d n zero = none
    requests-sends d n (suc i) = all_append P (requests d n i) _ (requests-sends d n i) (either (has d (suc i)) _ _ (one _ (o.requests _ _ _)) none)

    pub asked-sends : (d : Desk) → Sends (asked d)
    unfolding asked
    asked-sends d = requests-sends d _ _

    hand_ons-sends : (d : Desk) (i : ℕ) → All P (hand_ons d i)
    unfolding hand_ons hand_on
    hand_ons-sends d zero = none
    hand_ons-sends d (suc i) =
        all_append P (hand_ons d i) _ (hand_ons-sends d i)
        (either (has d (suc i) && not (eqb (held_for d (suc i)) 0)) _ _
        (either (eqb (heir_for d (suc i)) 0) _ _ (one _ (o.releases _ _ _ _)) (more _ _ (o.replies _ _ _ _) (one _ (o.releases _ _ _ _))))
        none)

    pub left-sends : (d : Desk) → Sends (left d)
    unfolding left
    left-sends d = hand_ons-sends d _

    next_heir-sends : (d : Desk) → All P (next_heir d)
    unfolding next_heir
    next_heir-sends d = either (eqb (head_of d) 0) _ _ none (one _ (o.transfers _ _ _ _))

    pub granted-sends : (d : Desk) (k n : ℕ) → Sends (granted d k n)
    unfolding granted
    granted-sends d k n =
        let u = held_by d (grant_of d + 1) k n (without d k) in
        more (reply u.number k u.number (grant_of u)) (next_heir u) (o.replies _ _ _ _) (next_heir-sends u)

    granted_head-sends : (d : Desk) → Sends (granted_head d)
    unfolding granted_head
    granted_head-sends d = either-of (eqb (head_of d) 0) _ _ none (granted-sends d _ _)

    fail-or-inquire : (d : Desk) (k : ℕ) → P (fail_to d k) → P (inquire_or_fail d k)
    unfolding inquire_or_fail
    fail-or-inquire d k f = by_bool (comes_before (site_key d k) (holder_key d)) (λ e. rw e (o.inquires _ _ _)) (λ e. rw e f)

    former-sends : (d : Desk) (k former : ℕ) → (former_told d k former ≡ true → P (fail_to d former)) → All P (fail_former d k former)
    unfolding fail_former
    former-sends d k former f = by_bool (former_told d k former) (λ e. rw e (one _ (f e))) (λ e. rw e none)

    answers-sends : (d : Desk) (k former : ℕ) → P (fail_to d k) → (former_told d k former ≡ true → P (fail_to d former)) → All P (answers d k former)
    unfolding answers
    answers-sends d k former own told =
        either (eqb (head_of d) k) _ (fail_to d k ∷ [])
        (all_append P _ (transfer_of d k ∷ inquire_or_fail d k ∷ [])
        (former-sends d k former told)
        (more (transfer_of d k) _ (o.transfers _ _ _ _) (one (inquire_or_fail d k) (fail-or-inquire d k own))))
        (one (fail_to d k) own)

    pub request-sends : (d : Desk) (k n : ℕ) → Fails (clock_raised d n) k n → Sends (on_request d k n)
    unfolding on_request queued_up
    request-sends d k n f =
        let u = clock_raised d n in
        either-of (eqb (holder_of u) 0) _ _ (granted-sends u k n) (answers-sends (with_queued u k n) k (head_of u) f.own f.former)

    head_named-sends : (d : Desk) → All P (head_named d)
    unfolding head_named inquire_if_before
    head_named-sends d =
        let h = head_of d in
        either (eqb h 0) [] _ none
        (more (transfer_of d h) _ (o.transfers _ _ _ _) (either (comes_before (site_key d h) (holder_key d)) (inquire_of d ∷ []) [] (one (inquire_of d) (o.inquires _ _ _)) none))

    releases-sends : (d : Desk) (x : ℕ) → Sends (holder_releases d x)
    unfolding holder_releases heir_takes_over
    releases-sends d x = either-of (eqb x 0) _ _ (granted_head-sends _) (either-of (eqb (queued_at d x) 0) _ _ none (head_named-sends _))

    pub on_release-sends : (d : Desk) (k x n : ℕ) → Sends (on_release d k x n)
    unfolding on_release early_release
    on_release-sends d k x n = either-of (from_holder d k n) _ _ (releases-sends d x) (either-of (is_early d k x n) _ _ (granted_head-sends _) none)

    pub on_yield-sends : (d : Desk) (k n : ℕ) → Sends (on_yield d k n)
    unfolding on_yield
    on_yield-sends d k n = either-of (from_holder d k n) _ _ (granted_head-sends _) none

    yielded-sends : (d : Desk) (j : ℕ) → Sends (yielded d j)
    unfolding yielded
    yielded-sends d j = one _ (o.yields _ _ _)

    pub reply-sends : (d : Desk) (j n : ℕ) → Sends (on_reply d j n)
    unfolding on_reply entered_or_yielded
    reply-sends d j n = either-of (takes d j) _ _ (either-of (all_held (taken d j n)) _ _ none (either-of (has_failed (taken d j n) && not (eqb (inquired_for (taken d j n) j) 0)) _ _ (yielded-sends _ j) none)) none

    pub inquire-sends : (d : Desk) (j n : ℕ) → Sends (on_inquire d j n)
    unfolding on_inquire yielded_or_remembered
    inquire-sends d j n = either-of (waits d) _ _ (either-of (eqb (held_for d j) 0) _ _ none (either-of (eqb n (held_for d j)) _ _ (either-of (has_failed d) _ _ (yielded-sends d j) none) none)) none

    pub yielded_up_to-sends : (d : Desk) (i : ℕ) → Sends (yielded_up_to d i)
    unfolding yielded_up_to yielded_if
    yielded_up_to-sends d zero = none
    yielded_up_to-sends d (suc i) = all_append P (yielded_up_to d i).sent _ (yielded_up_to-sends d i) (either-of (must_yield (yielded_up_to d i).desk (suc i)) _ _ (yielded-sends _ (suc i)) none)

    pub fail-sends : (d : Desk) (n : ℕ) → Sends (on_fail d n)
    unfolding on_fail
    fail-sends d n = either-of (fail_counts d n) _ _ (yielded_up_to-sends _ _) none

    pub transfer-sends : (d : Desk) (j x n : ℕ) → Sends (on_transfer d j x n)
    unfolding on_transfer
    transfer-sends d j x n = either-of (names_held d j n) _ _ none none

    pub delivered-sends : (d : Desk) (m : Message) → (m.kind ≡ REQUEST → Fails (clock_raised d m.number) m.from m.number) → Sends (delivered d m)
    unfolding delivered
    delivered-sends d m f =
        by_bool (eqb m.kind REQUEST)
        (λ e. rw e (request-sends d _ _ (f (eqb-true _ _ e))))
        (λ e. rw e
        (either-of (eqb m.kind REPLY) _ _ (reply-sends d _ _)
        (either-of (eqb m.kind RELEASE) _ _ (on_release-sends d _ _ _)
        (either-of (eqb m.kind INQUIRE) _ _ (inquire-sends d _ _)
        (either-of (eqb m.kind FAIL) _ _ (fail-sends d _)
        (either-of (eqb m.kind YIELD) _ _ (on_yield-sends d _ _)
        (either-of (eqb m.kind TRANSFER) _ _ (transfer-sends d _ _ _)
        none)))))))
