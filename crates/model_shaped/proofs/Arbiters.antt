-- What an arbiter does with a request, a release or a yield keeps its desk shaped, and what it sends is shaped.
use Prim.Native.Nat.{ℕ, zero, suc, ◌+◌, ◌≤◌}
use mathlib.Core.Path.{◌≡◌, refl}
use mathlib.Core.Logic.{◌≢◌}
use mathlib.Core.Bool.{true, not}
use mathlib.Core.List.{List}
use native.Mathlib.Omega.{arith}
use lib.Dec.{eqb}
use borrow.Author.Tests.{eqb-true, eqb-false, not-true}
use Rattle.basics.specs.Helpers.{All}
use Rattle.basics.proofs.Basics.{by_bool, and_split}
use Rattle.basics.proofs.Lists.{all_append}
use Rattle.rig.specs.declared.Desk.{Desk}
use Rattle.rig.specs.Limits.{number_limit, SiteNumber}
use Rattle.rig.specs.Messages.{reply, inquire, fail, transfer}
use Rattle.model.specs.Tables.{at}
use Rattle.model.specs.State.{has_member}
use Rattle.model.specs.Priority.{comes_before, goes_first, head_with, head}
use Rattle.model.specs.Desk.{queued_at}
use Rattle.model.specs.Shape.{queued_shaped}
use Rattle.model.specs.Arbiter.{grant_of, holder_of, holder_key, site_key, head_of, held_by, with_queued, without, transfer_of, inquire_of, fail_to, next_heir, granted, granted_head, clock_raised, former_told, fail_former, inquire_or_fail, answers, queued_up, on_request, inquire_if_before, head_named, heir_takes_over, holder_releases, from_holder, is_early, early_release, on_release, on_yield}
use Rattle.model.proofs.Heads.{head-within}
use Rattle.model_shaped.proofs.Rows.{row_put}
use Rattle.model_shaped.proofs.Fine.{is-given, Here, Fine, Passes, FineEffect, queued-none, queued-of, holder-of, reply-passes, inquire-passes, fail-passes, transfer-passes}
use Rattle.model_shaped.proofs.Changes.{with-site, with-arbiter, sent-by, queued-tied, queued-small, held_by_lem, free_of, site-listed}

-- The head is queued.

head-with-queued : (row : List ℕ) (k h : ℕ) → (h ≢ 0 → at 0 row h ≢ 0) → head_with row k h ≢ 0 → at 0 row (head_with row k h) ≢ 0
unfolding head_with
head-with-queued row k h old ne =
    by_bool (eqb (at 0 row k) 0)
    (λ e. rw e (old (rw e at ne)))
    (λ e. by_bool (eqb h 0)
    (λ z. rw (e, z) (eqb-false _ 0 e))
    (λ z. by_bool (goes_first row k h) (λ g. rw (e, z, g) (eqb-false _ 0 e)) (λ g. rw (e, z, g) (old (eqb-false h 0 z)))))

pub head-queued : (row : List ℕ) (n : ℕ) → head row n ≢ 0 → at 0 row (head row n) ≢ 0
unfolding head
head-queued row zero ne = absurd (ne refl)
head-queued row (suc n) ne = head-with-queued row (suc n) (head row n) (head-queued row n) ne

module _ {n : ℕ} {sets : List ℕ} {b : ℕ} (p : Here n sets b) where
  abbrev F : Desk → Type 0
  F d = Fine n sets b d

  head-listed : (d : Desk) → F d → head_of d ≢ 0 → SiteNumber (head_of d)
  unfolding head_of
  head-listed d f ne = let h = head-within d.queued d.size in record { low = omega arith; high = omega (arith, h, f.size, p.small) }

  head-there : (d : Desk) → head_of d ≢ 0 → queued_at d (head_of d) ≢ 0
  unfolding head_of
  head-there d ne = head-queued d.queued d.size ne

  head-tied : (d : Desk) → F d → head_of d ≢ 0 → has_member sets (head_of d) b ≡ true
  head-tied d f ne = queued-tied d f (head_of d) (head-listed d f ne) (head-there d ne)

  -- what an arbiter sends

  transfer-sent : (d : Desk) → F d → holder_of d ≢ 0 → (x : ℕ) → has_member sets x b ≡ true → Passes n sets (transfer_of d x)
  transfer-sent d f ne x e =
      let h = holder-of sets b d.arbiter f.arbiter.shaped ne in
      sent-by d f (λ s. transfer s (holder_of d) x (grant_of d)) (transfer-passes p (holder_of d) x (grant_of d) h.0 e (f.arbiter.granted ne))

  inquire-sent : (d : Desk) → F d → holder_of d ≢ 0 → Passes n sets (inquire_of d)
  inquire-sent d f ne =
      let h = holder-of sets b d.arbiter f.arbiter.shaped ne in
      sent-by d f (λ s. inquire s (holder_of d) (grant_of d)) (inquire-passes p (holder_of d) (grant_of d) h.0 (f.arbiter.granted ne))

  fail-sent : (d : Desk) → F d → (k : ℕ) → has_member sets k b ≡ true → Passes n sets (fail_to d k)
  fail-sent d f k e = sent-by d f (λ s. fail s k (queued_at d k)) (fail-passes p k (queued_at d k) e)

  next-heir : (d : Desk) → F d → holder_of d ≢ 0 → All (Passes n sets) (next_heir d)
  unfolding next_heir All
  next-heir d f ne = by_bool (eqb (head_of d) 0) (λ e. rw e tt) (λ e. rw e (transfer-sent d f ne (head_of d) (head-tied d f (eqb-false _ 0 e)), tt))

  -- site k is granted, off the queue

  holds : (d : Desk) → F d → (k x : ℕ) → has_member sets k b ≡ true → 1 ≤ x → x ≤ number_limit → F (held_by d (grant_of d + 1) k x (without d k))
  holds d f k x e l h = with-arbiter d f _ (held_by_lem p (grant_of d + 1) k x (omega arith) e l h) _ (row_put (queued_shaped sets b) d.queued k 0 f.queue (queued-none sets b k))

  granted-fine : (d : Desk) → F d → (k x : ℕ) → has_member sets k b ≡ true → 1 ≤ x → x ≤ number_limit → FineEffect n sets b (granted d k x)
  unfolding granted All
  granted-fine d f k x e l h =
      let u = held_by d (grant_of d + 1) k x (without d k) in
      let w = p.ties k b e in
      let fu = holds d f k x e l h in
      let first = sent-by d f (λ s. reply s k s (grant_of d + 1)) (reply-passes p k b (grant_of d + 1) e (omega arith)) in
      record { desk = fu; sent = (first, next-heir u fu (λ z. omega (arith, z, w.0))) }

  head-fine : (d : Desk) → F d → FineEffect n sets b (granted_head d)
  unfolding granted_head All
  head-fine d f =
      by_bool (eqb (head_of d) 0)
      (λ e. rw e (record { desk = f; sent = tt }))
      (λ e. let ne = eqb-false (head_of d) 0 e in
      let there = head-there d ne in
      rw e (granted-fine d f (head_of d) (queued_at d (head_of d)) (head-tied d f ne) (omega arith) (queued-small d f (head_of d) (head-listed d f ne))))

  -- a request

  raised-fine : (d : Desk) → F d → (x : ℕ) → F (clock_raised d x)
  unfolding clock_raised
  raised-fine d f x = with-site d f _ (λ h. f.site (omega arith))

  former-fine : (d u : Desk) → F d → F u → (k : ℕ) → All (Passes n sets) (fail_former u k (head_of d))
  unfolding fail_former All
  former-fine d u f fu k =
      by_bool (former_told u k (head_of d))
      (λ e. let ne = eqb-false (head_of d) 0 (not-true _ (and_split (not (eqb (head_of d) 0)) _ e).0) in rw e (fail-sent u fu (head_of d) (head-tied d f ne), tt))
      (λ e. rw e tt)

  either-fine : (d : Desk) → F d → holder_of d ≢ 0 → (k : ℕ) → has_member sets k b ≡ true → Passes n sets (inquire_or_fail d k)
  unfolding inquire_or_fail
  either-fine d f ne k t = by_bool (comes_before (site_key d k) (holder_key d)) (λ e. rw e (inquire-sent d f ne)) (λ e. rw e (fail-sent d f k t))

  queued-fine : (d : Desk) → F d → holder_of d ≢ 0 → (k x : ℕ) → has_member sets k b ≡ true → x ≤ number_limit → FineEffect n sets b (queued_up d k x)
  unfolding queued_up answers All
  queued-fine d f ne k x t h =
      let u = with_queued d k x in
      let fu : F u = with-arbiter d f d.arbiter f.arbiter _ (row_put (queued_shaped sets b) d.queued k x f.queue (queued-of sets b k x t h)) in
      by_bool (eqb (head_of u) k)
      (λ e. rw e (record { desk = fu; sent = all_append _ (fail_former u k (head_of d)) _ (former-fine d u f fu k) (transfer-sent u fu ne k t, (either-fine u fu ne k t, tt)) }))
      (λ e. rw e (record { desk = fu; sent = (fail-sent u fu k t, tt) }))

  pub request-fine : (d : Desk) → F d → (k x : ℕ) → has_member sets k b ≡ true → 1 ≤ x → x ≤ number_limit → FineEffect n sets b (on_request d k x)
  unfolding on_request
  request-fine d f k x t l h =
      let u = clock_raised d x in
      let fu = raised-fine d f x in
      by_bool (eqb (holder_of u) 0)
      (λ e. rw e (granted-fine u fu k x t l h))
      (λ e. rw e (queued-fine u fu (eqb-false _ 0 e) k x t h))

  -- a release

  named-fine : (d : Desk) → F d → holder_of d ≢ 0 → All (Passes n sets) (head_named d)
  unfolding head_named inquire_if_before All
  named-fine d f ne =
      by_bool (eqb (head_of d) 0)
      (λ e. rw e tt)
      (λ e. let first = transfer-sent d f ne (head_of d) (head-tied d f (eqb-false _ 0 e)) in
      by_bool (comes_before (site_key d (head_of d)) (holder_key d)) (λ c. rw (e, c) (first, (inquire-sent d f ne, tt))) (λ c. rw (e, c) (first, tt)))

  over-fine : (d : Desk) → F d → (x : ℕ) → has_member sets x b ≡ true → queued_at d x ≢ 0 → FineEffect n sets b (heir_takes_over d x)
  unfolding heir_takes_over
  over-fine d f x t q =
      let u = held_by d (grant_of d + 1) x (queued_at d x) (without d x) in
      let w = p.ties x b t in
      let fu = holds d f x (queued_at d x) t (omega arith) (queued-small d f x (site-listed p x b t)) in
      record { desk = fu; sent = named-fine u fu (λ z. omega (arith, z, w.0)) }

  releases-fine : (d : Desk) → F d → (x : ℕ) → (x ≢ 0 → has_member sets x b ≡ true) → FineEffect n sets b (holder_releases d x)
  unfolding holder_releases All
  releases-fine d f x t =
      by_bool (eqb x 0)
      (λ e. rw e (head-fine _ (with-arbiter d f _ (free_of (grant_of d)) d.queued f.queue)))
      (λ e. by_bool (eqb (queued_at d x) 0)
      (λ q. rw (e, q) (record { desk = f; sent = tt }))
      (λ q. rw (e, q) (over-fine d f x (t (eqb-false x 0 e)) (eqb-false _ 0 q))))

  pub release-fine : (d : Desk) → F d → (k x y : ℕ) → (x ≢ 0 → has_member sets x b ≡ true) → FineEffect n sets b (on_release d k x y)
  unfolding on_release early_release All
  release-fine d f k x y t =
      by_bool (from_holder d k y)
      (λ e. rw e (releases-fine d f x t))
      (λ e. by_bool (is_early d k x y)
      (λ g. rw (e, g) (head-fine _ (with-arbiter d f _ (free_of (grant_of d + 1)) _ (row_put (queued_shaped sets b) d.queued k 0 f.queue (queued-none sets b k)))))
      (λ g. rw (e, g) (record { desk = f; sent = tt })))

  -- a yield

  pub yield-fine : (d : Desk) → F d → (k x : ℕ) → has_member sets k b ≡ true → FineEffect n sets b (on_yield d k x)
  unfolding on_yield from_holder All
  yield-fine d f k x t =
      by_bool (from_holder d k x)
      (λ e. let q = eqb-true k (holder_of d) (and_split (eqb x (grant_of d)) _ e).1 in
      let low = (p.ties k b t).0 in
      let seq = is-given _ (holder-of sets b d.arbiter f.arbiter.shaped (λ z. omega (arith, z, q, low))).1 in
      rw e (head-fine _ (with-arbiter d f _ (free_of (grant_of d)) _ (row_put (queued_shaped sets b) d.queued k d.arbiter.seq f.queue (queued-of sets b k _ t seq.1)))))
      (λ e. rw e (record { desk = f; sent = tt }))
