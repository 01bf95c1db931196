-- The accounting of each rule: what it sends and leaves remembered weighs less than the message that it took and what was remembered
-- before. No law here depends on the machine of `protocol`.
use Prim.Native.Nat.{ℕ, zero, suc, ◌+◌, ◌*◌, ◌≤◌, ◌<◌}
use mathlib.Core.Path.{◌≡◌, refl}
use mathlib.Core.Bool.{Bool, true, false, not, ◌&&◌, cond}
use mathlib.Core.List.{List, [], ◌∷◌, ◌++◌}
use native.Mathlib.Omega.{arith}
use lib.Dec.{eqb}
use borrow.Author.Tests.{eqb-true, ne_eqb}
use Rattle.basics.proofs.Basics.{by_bool, and_split}
use Rattle.rig.specs.declared.Desk.{Desk}
use Rattle.rig.specs.declared.Message.{Message}
use Rattle.rig.specs.Limits.{site_limit, SiteNumber}
use Rattle.rig.specs.Messages.{REPLY}
use Rattle.model.specs.Tables.{at}
use Rattle.model.specs.Priority.{comes_before}
use Rattle.model.specs.Desk.{Effect, effect, has, waits, has_failed, held_for, inquired_for, queued_at}
use Rattle.model.specs.Ask.{requests, asked}
use Rattle.model.specs.Leave.{hand_on, hand_ons, left}
use Rattle.model.specs.Arbiter.{holder_of, holder_key, site_key, head_of, next_heir, granted, granted_head, clock_raised, former_told, fail_former, inquire_or_fail, answers, queued_up, on_request, inquire_if_before, head_named, heir_takes_over, holder_releases, from_holder, is_early, early_release, on_release, on_yield}
use Rattle.model.specs.Site.{failed_set, yielded, all_held, entered, taken, entered_or_yielded, takes, on_reply, remembered, yielded_or_remembered, on_inquire, must_yield, yielded_if, yielded_up_to, fail_counts, on_fail, names_held, on_transfer}
use Rattle.model.specs.Deliver.{delivered}
use Rattle.model.specs.Settling.{weight_limit, remembered_weight, turn_weight, weight, weights, remembered_in}
use Rattle.model.proofs.Shaped.{by_kind}
use Rattle.model.proofs.Weights.{weights-append, mark, row-blank, row-changed}

-- the weight of what a desk remembers, and that of an effect
abbrev pub desk_weight : Desk → ℕ
desk_weight d = remembered_weight * remembered_in d.inquired

abbrev pub cost : Effect → ℕ
cost e = weights e.sent + desk_weight e.desk

-- either of two
either : (t : Bool) (e f : Effect) (n : ℕ) → cost e ≤ n → cost f ≤ n → cost (cond t e f) ≤ n
either true e f n a b = a
either false e f n a b = b

lists : (t : Bool) (xs ys : List Message) (n : ℕ) → weights xs ≤ n → weights ys ≤ n → weights (cond t xs ys) ≤ n
lists true xs ys n a b = a
lists false xs ys n a b = b

-- message by message
nothing : (n : ℕ) → weights [] ≤ n
unfolding weights
nothing n = omega arith

more : (m : Message) (ms : List Message) (w n : ℕ) → weight m ≤ w → weights ms ≤ n → weights (m ∷ ms) ≤ w + n
unfolding weights
more m ms w n e h = omega arith

one : (m : Message) (w : ℕ) → weight m ≡ w → weights (m ∷ []) ≤ w
unfolding weights
one m w e = omega arith

both : (xs ys : List Message) (a b : ℕ) → weights xs ≤ a → weights ys ≤ b → weights (xs ++ ys) ≤ a + b
both xs ys a b h k = rw weights-append (omega arith)

-- what is sent, where a desk remembers as much as before
sends : (ms : List Message) (n k : ℕ) → weights ms ≤ n → weights ms + k ≤ n + k
sends ms n k h = omega arith

-- an effect that changes nothing
idle : (d : Desk) → cost (effect d []) ≤ desk_weight d
unfolding weights
idle d = omega arith

-- The arbiter's rules: what is remembered stays as it is.

-- a transfer
next_heir-weighs : (d : Desk) → weights (next_heir d) ≤ 1
unfolding next_heir weight
next_heir-weighs d = lists (eqb (head_of d) 0) _ _ 1 (nothing 1) (one _ 1 refl)

-- a reply and a transfer
granted-cost : (d : Desk) (k n : ℕ) → cost (granted d k n) ≤ 2 + desk_weight d
unfolding granted weight
granted-cost d k n = sends _ 2 (desk_weight d) (more _ _ 1 1 (omega arith) (next_heir-weighs _))

granted_head-cost : (d : Desk) → cost (granted_head d) ≤ 2 + desk_weight d
unfolding granted_head
granted_head-cost d = either (eqb (head_of d) 0) _ _ _ (omega (arith, idle d)) (granted-cost d _ _)

-- an inquire, or a fail
inquire_or_fail-weighs : (d : Desk) (k : ℕ) → weight (inquire_or_fail d k) ≤ 4
unfolding inquire_or_fail weight
inquire_or_fail-weighs d k = by_bool (comes_before (site_key d k) (holder_key d)) (λ e. rw e (omega arith)) (λ e. rw e (omega arith))

fail_former-weighs : (d : Desk) (k former : ℕ) → weights (fail_former d k former) ≤ 1
unfolding fail_former weight
fail_former-weighs d k former = lists (former_told d k former) _ _ 1 (one _ 1 refl) (nothing 1)

-- a fail, a transfer and an inquire
answers-weigh : (d : Desk) (k former : ℕ) → weights (answers d k former) ≤ 6
unfolding answers weight
answers-weigh d k former =
    lists (eqb (head_of d) k) _ _ 6
    (both _ _ 1 5 (fail_former-weighs d k former) (more _ _ 1 4 (omega arith) (more _ [] 4 0 (inquire_or_fail-weighs d k) (nothing 0))))
    (more _ [] 1 5 (omega arith) (nothing 5))

request-cost : (d : Desk) (k n : ℕ) → cost (on_request d k n) ≤ 6 + desk_weight d
unfolding on_request queued_up clock_raised
request-cost d k n =
    either (eqb (holder_of d) 0) _ _ _
    (omega (arith, granted-cost (clock_raised d n) k n))
    (sends _ 6 (desk_weight d) (answers-weigh _ k _))

-- a transfer and an inquire
inquire_if_before-weighs : (d : Desk) (h : ℕ) → weights (inquire_if_before d h) ≤ 4
unfolding inquire_if_before weight
inquire_if_before-weighs d h = lists (comes_before (site_key d h) (holder_key d)) _ _ 4 (one _ 4 refl) (nothing 4)

head_named-weighs : (d : Desk) → weights (head_named d) ≤ 5
unfolding head_named weight
head_named-weighs d = lists (eqb (head_of d) 0) _ _ 5 (nothing 5) (more _ _ 1 4 (omega arith) (inquire_if_before-weighs d (head_of d)))

heir-cost : (d : Desk) (x : ℕ) → cost (heir_takes_over d x) ≤ 5 + desk_weight d
unfolding heir_takes_over
heir-cost d x = sends _ 5 (desk_weight d) (head_named-weighs _)

early-cost : (d : Desk) (k : ℕ) → cost (early_release d k) ≤ 2 + desk_weight d
unfolding early_release
early-cost d k = granted_head-cost _

-- a plain release, and one that may name an heir
plain-cost : (d : Desk) (k x n : ℕ) → eqb x 0 ≡ true → cost (on_release d k x n) ≤ 2 + desk_weight d
unfolding on_release holder_releases
plain-cost d k x n e =
    either (from_holder d k n) _ _ _
    (rw e (granted_head-cost _))
    (either (is_early d k x n) _ _ _ (early-cost d k) (omega (arith, idle d)))

release-cost : (d : Desk) (k x n : ℕ) → cost (on_release d k x n) ≤ 5 + desk_weight d
unfolding on_release holder_releases
release-cost d k x n =
    by_bool (eqb x 0)
    (λ e. omega (arith, plain-cost d k x n e))
    (λ e. either (from_holder d k n) _ _ _
    (rw e (either (eqb (queued_at d x) 0) _ _ _ (omega (arith, idle d)) (heir-cost d x)))
    (either (is_early d k x n) _ _ _ (omega (arith, early-cost d k)) (omega (arith, idle d))))

yield-cost : (d : Desk) (k n : ℕ) → cost (on_yield d k n) ≤ 2 + desk_weight d
unfolding on_yield
yield-cost d k n = either (from_holder d k n) _ _ _ (granted_head-cost _) (omega (arith, idle d))

-- The site's rules: a yield weighs as much as the inquire that is remembered no more.

mark-high : (n : ℕ) → mark n ≤ 1
mark-high n = by_bool (eqb n 0) (λ e. rw e (omega arith)) (λ e. rw e (omega arith))

yielded-cost : (d : Desk) (j : ℕ) → SiteNumber j → cost (yielded d j) + remembered_weight * mark (inquired_for d j) ≤ 3 + desk_weight d
unfolding yielded failed_set weights weight
yielded-cost d j r = omega (arith, row-changed d.inquired j 0 r)

-- of a member whose inquire is remembered
due-cost : (d : Desk) (j : ℕ) → SiteNumber j → not (eqb (inquired_for d j) 0) ≡ true → cost (yielded d j) ≤ desk_weight d
due-cost d j r e = omega (arith, rw e at (yielded-cost d j r))

remembered-cost : (d : Desk) (j n : ℕ) → SiteNumber j → cost (effect (remembered d j n) []) ≤ 3 + desk_weight d
unfolding remembered weights
remembered-cost d j n r = let h = mark-high n in omega (arith, row-changed d.inquired j n r)

inquire-cost : (d : Desk) (j n : ℕ) → SiteNumber j → cost (on_inquire d j n) ≤ 3 + desk_weight d
unfolding on_inquire yielded_or_remembered
inquire-cost d j n r =
    let a = remembered-cost d j n r in
    let b = yielded-cost d j r in
    either (waits d) _ _ _
    (either (eqb (held_for d j) 0) _ _ _ a
    (either (eqb n (held_for d j)) _ _ _ (either (has_failed d) _ _ _ (omega arith) a) (omega (arith, idle d))))
    (omega (arith, idle d))

taken-weighs : (d : Desk) (j n : ℕ) → SiteNumber j → desk_weight (taken d j n) ≤ desk_weight d
unfolding taken
taken-weighs d j n r =
    let v = cond (eqb (inquired_for d j) n) n 0 in
    let c = row-changed d.inquired j v r in
    let h : mark v ≤ mark (inquired_for d j) = by_bool (eqb (inquired_for d j) n) (λ e. rw (e, eqb-true _ n e) (omega arith)) (λ e. rw e (omega arith)) in
    omega arith

entered-cost : (d : Desk) → cost (effect (entered d) []) ≤ desk_weight d
unfolding entered weights
entered-cost d = omega (arith, row-blank)

-- enters, or yields, or neither
enters-cost : (d : Desk) (j : ℕ) → SiteNumber j → cost (entered_or_yielded d j) ≤ desk_weight d
unfolding entered_or_yielded
enters-cost d j r =
    either (all_held d) _ _ _ (entered-cost d)
    (by_bool (has_failed d && not (eqb (inquired_for d j) 0))
    (λ e. rw e (due-cost d j r (and_split (has_failed d) _ e).1))
    (λ e. rw e (idle d)))

reply-cost : (d : Desk) (j n : ℕ) → SiteNumber j → cost (on_reply d j n) ≤ desk_weight d
unfolding on_reply
reply-cost d j n r =
    let a = taken-weighs d j n r in
    let b = enters-cost (taken d j n) j r in
    either (takes d j) _ _ _ (omega arith) (idle d)

yielded_if-cost : (d : Desk) (j : ℕ) → SiteNumber j → cost (yielded_if d j) ≤ desk_weight d
unfolding yielded_if must_yield
yielded_if-cost d j r =
    by_bool (must_yield d j)
    (λ e. rw e (due-cost d j r (and_split (not (eqb (held_for d j) 0)) _ (and_split (has d j) _ e).1).1))
    (λ e. rw e (idle d))

yielded_up_to-cost : (d : Desk) (i : ℕ) → i ≤ site_limit → cost (yielded_up_to d i) ≤ desk_weight d
unfolding yielded_up_to
yielded_up_to-cost d zero h = idle d
yielded_up_to-cost d (suc i) h =
    let e = yielded_up_to d i in
    let ih = yielded_up_to-cost d i (omega arith) in
    let c = yielded_if-cost e.desk (suc i) (record { low = omega arith; high = h }) in
    rw weights-append (omega arith)

fail-cost : (d : Desk) (n : ℕ) → d.size ≤ site_limit → cost (on_fail d n) ≤ desk_weight d
unfolding on_fail failed_set
fail-cost d n h = either (fail_counts d n) _ _ _ (yielded_up_to-cost (failed_set d) d.size h) (idle d)

transfer-cost : (d : Desk) (j x n : ℕ) → cost (on_transfer d j x n) ≤ desk_weight d
unfolding on_transfer
transfer-cost d j x n = by_bool (names_held d j n) (λ e. rw e (idle d)) (λ e. rw e (idle d))

-- A message weighs more than what its delivery adds.
pub delivered-falls : (d : Desk) (m : Message) → d.size ≤ site_limit → SiteNumber m.from → (m.kind ≡ REPLY → SiteNumber m.about) → cost (delivered d m) < weight m + desk_weight d
unfolding delivered weight
delivered-falls d m size from about =
    by_kind m.kind
    (λ k. rw k (omega (arith, request-cost d m.from m.number)))
    (λ k. let r = about k in rw k (omega (arith, reply-cost d m.about m.number r)))
    (λ k. rw k (by_bool (eqb m.about 0)
    (λ e. rw e (omega (arith, plain-cost d m.from m.about m.number e)))
    (λ e. rw e (omega (arith, release-cost d m.from m.about m.number)))))
    (λ k. rw k (omega (arith, inquire-cost d m.from m.number from)))
    (λ k. rw k (omega (arith, fail-cost d m.number size)))
    (λ k. rw k (omega (arith, yield-cost d m.from m.number)))
    (λ k. rw k (omega (arith, transfer-cost d m.from m.about m.number)))
    (λ n1 n2 n3 n4 n5 n6 n7. rw (ne_eqb _ _ n1, ne_eqb _ _ n2, ne_eqb _ _ n3, ne_eqb _ _ n4, ne_eqb _ _ n5, ne_eqb _ _ n6, ne_eqb _ _ n7) (omega (arith, idle d)))

-- An ask and a leave: at most 7 for each member; the site remembers nothing after it.

one-member : (xs ys : List Message) (i : ℕ) → weights xs ≤ weight_limit * i → weights ys ≤ 7 → weights (xs ++ ys) ≤ weight_limit * suc i
one-member xs ys i h k = rw weights-append (omega arith)

requests-weigh : (d : Desk) (n i : ℕ) → weights (requests d n i) ≤ weight_limit * i
unfolding requests weight
requests-weigh d n zero = nothing 0
requests-weigh d n (suc i) = one-member (requests d n i) _ i (requests-weigh d n i) (lists (has d (suc i)) _ _ 7 (one _ 7 refl) (nothing 7))

hand_on-weighs : (s j k g : ℕ) → weights (hand_on s j k g) ≤ 7
unfolding hand_on weight
hand_on-weighs s j k g =
    by_bool (eqb k 0)
    (λ e. rw e (more _ [] 3 4 (omega arith) (nothing 4)))
    (λ e. rw e (more _ _ 1 6 (omega arith) (more _ [] 6 0 (rw e (omega arith)) (nothing 0))))

hand_ons-weigh : (d : Desk) (i : ℕ) → weights (hand_ons d i) ≤ weight_limit * i
unfolding hand_ons
hand_ons-weigh d zero = nothing 0
hand_ons-weigh d (suc i) =
    one-member (hand_ons d i) _ i (hand_ons-weigh d i)
    (lists (has d (suc i) && not (eqb (held_for d (suc i)) 0)) _ _ 7 (hand_on-weighs _ _ _ _) (nothing 7))

pub asked-cost : (d : Desk) → d.size ≤ site_limit → cost (asked d) ≤ turn_weight
unfolding asked
asked-cost d h = omega (arith, requests-weigh d (d.site.clock + 1) d.size, row-blank)

pub left-cost : (d : Desk) → d.size ≤ site_limit → cost (left d) ≤ turn_weight
unfolding left
left-cost d h = omega (arith, hand_ons-weigh d d.size, row-blank)
