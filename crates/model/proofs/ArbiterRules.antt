-- What an arbiter does with a request, a release or a yield comes to the same in the definitions and in the machine: each rule of
-- specs/Arbiter beside the rule of that name in the crate protocol. And it leaves what the desk has as a site.
use Prim.Native.Nat.{ℕ, zero, suc, ◌+◌, ◌≤◌}
use mathlib.Core.Path.{◌≡◌, refl, sym, ◌∙◌, ap, fun_ext}
use mathlib.Core.Bool.{Bool, false, not, ◌&&◌, cond}
use mathlib.Core.List.{List, [], map}
use native.Mathlib.Omega.{arith}
use native.Mathlib.Numerals.{add-one}
use lib.Dec.{eqb}
use lib.ListN.{length}
use borrow.Author.Tests.{eqb-false, ne_eqb}
use Rattle.rig.specs.declared.Desk.{Desk}
use Rattle.rig.specs.declared.Arbiter.{Arbiter}
use Rattle.rig.specs.Limits.{site_limit}
use Rattle.basics.specs.Helpers.{update}
use Rattle.protocol.specs.Ask.{Ask, ask_with, no_ask}
use Rattle.protocol.specs.Setting.{Setting}
use Rattle.protocol.specs.Local as P
use Rattle.protocol.specs.Arbiter as A
use Rattle.protocol.specs.Rig.{sent_by}
use Rattle.model.specs.Tables.{at, put}
use Rattle.model.specs.Priority.{comes_before, head_with, head}
use Rattle.model.specs.Desk.{Effect, effect, queued_at, with_arbiter}
use Rattle.model.specs.Arbiter.{grant_of, holder_of, holder_key, site_key, head_of, held_by, free, with_queued, without, next_heir, granted, granted_head, former_told, fail_former, inquire_or_fail, answers, queued_up, inquire_if_before, head_named, heir_takes_over, holder_releases, from_holder, is_early, early_release, on_release, on_yield}
use Rattle.basics.proofs.Basics.{by_bool}
use Rattle.model.proofs.Heads.{head-within}
use Rattle.model.proofs.Tables.{at-put, length-put}
use Rattle.model.proofs.Lawful.{before}
use Rattle.model.proofs.Machine.{sent_of}

-- a queue, given by its numbers
abbrev pub asks_in : List ℕ → ℕ → Ask
asks_in q k = ask_with (at 0 q k)

-- the desk's arbiter and queue, in the place of those of l
abbrev pub arbiter_in : P.Local → Desk → P.Local
arbiter_in l d = P.with_arbiter l d.arbiter.grant d.arbiter.holder (ask_with d.arbiter.seq) (asks_in d.queued)

-- what an effect is for the machine: its tables, and the messages of this arbiter
pub record Sees (l : P.Local) (e : Effect) (v : P.View) : Type 0 where
  pub tables : arbiter_in l e.desk ≡ v.tables
  pub sent : map sent_of e.sent ≡ sent_by e.desk.number v.messages

-- what an arbiter's rule leaves as it is
pub record SiteKept (d u : Desk) : Type 0 where
  pub size : u.size ≡ d.size
  pub number : u.number ≡ d.number
  pub members : u.members ≡ d.members
  pub site : u.site ≡ d.site
  pub held : u.held ≡ d.held
  pub heir : u.heir ≡ d.heir
  pub inquired : u.inquired ≡ d.inquired
  pub queued : length u.queued ≡ site_limit

kept : (d : Desk) → length d.queued ≡ site_limit → SiteKept d d
kept d e = record { size = refl; number = refl; members = refl; site = refl; held = refl; heir = refl; inquired = refl; queued = e }

kept_then : (d u v : Desk) → SiteKept d u → SiteKept u v → SiteKept d v
kept_then d u v x y = record { size = y.size ∙ x.size; number = y.number ∙ x.number; members = y.members ∙ x.members; site = y.site ∙ x.site; held = y.held ∙ x.held; heir = y.heir ∙ x.heir; inquired = y.inquired ∙ x.inquired; queued = y.queued }

-- a queue after a store
queue-put : (q : List ℕ) (k n : ℕ) → length q ≡ site_limit → 1 ≤ k → k ≤ site_limit → ◌≡◌ {A = ℕ → Ask} (asks_in (put q k n)) (update (asks_in q) k (ask_with n))
unfolding update
queue-put q k n e lo hi = fun_ext (λ i. ap ask_with (at-put 0 q k n lo (omega arith) i) ∙ by_bool (eqb i k) (λ h. rw h) (λ h. rw h))

module _ (l : P.Local) (mem : ℕ → Bool) where
  -- the machine's setting for the desk
  abbrev pub setting_at : Desk → Setting
  setting_at d = record { size = d.size; arbiter = d.number; member = mem; comes_before = before }

  abbrev seen : Desk → P.View
  seen d = P.view (arbiter_in l d) []

  head_of-within : (d : Desk) → head_of d ≤ d.size
  unfolding head_of
  head_of-within d = head-within d.queued d.size

  -- the head of a queue is the machine's
  head-same : (d : Desk) (row : List ℕ) (n : ℕ) → head row n ≡ A.head (setting_at d) (asks_in row) n
  unfolding head head_with A.head
  head-same d row zero = refl
  head-same d row (suc n) = rw (head-same d row n)

  head_of-same : (d : Desk) (q : ℕ → Ask) → ◌≡◌ {A = ℕ → Ask} (asks_in d.queued) q → head_of d ≡ A.head_of (setting_at d) q
  unfolding head_of
  head_of-same d q e = head-same d d.queued d.size ∙ ap (λ (f : ℕ → Ask). A.head_of (setting_at d) f) e

  nothing : (d : Desk) → Sees l (effect d []) (seen d)
  unfolding sent_by
  nothing d = record { tables = refl; sent = refl }

  module _ (d : Desk) (long : length d.queued ≡ site_limit) where
    pub granted-sees : (k n : ℕ) → 1 ≤ k → k ≤ site_limit → Sees l (granted d k n) (A.granted (setting_at d) (seen d) k (ask_with n))
    unfolding granted next_heir A.granted sent_by
    granted-sees k n lo hi =
        let u = held_by d (grant_of d + 1) k n (without d k) in
        let q = queue-put d.queued k 0 long lo hi in
        let h = head_of-same u _ q in
        by_bool (eqb (A.head_of (setting_at d) (update (asks_in d.queued) k no_ask)) 0)
        (λ e. rw e (record { tables = rw (q, add-one); sent = rw (h, e, add-one) }))
        (λ e. rw e (record { tables = rw (q, add-one); sent = rw (h, e, add-one) }))

    pub granted_head-sees : d.size ≤ site_limit → Sees l (granted_head d) (A.granted_head (setting_at d) (seen d))
    unfolding granted_head A.granted_head
    granted_head-sees size =
        let h = head_of-same d _ refl in
        by_bool (eqb (head_of d) 0)
        (λ e. let f = rw h at e in rw (e, f) (nothing d))
        (λ e. let f = rw h at e in
        let ne = eqb-false (head_of d) 0 e in
        rw (e, f, h) (granted-sees (A.head_of (setting_at d) (asks_in d.queued)) _ (omega (arith, h)) (omega (arith, h, head_of-within d))))

  -- the head is granted, seen from tables that are known
  granted_head-from : (d : Desk) → length d.queued ≡ site_limit → d.size ≤ site_limit → (x : P.Local) → arbiter_in l d ≡ x → Sees l (granted_head d) (A.granted_head (setting_at d) (P.view x []))
  granted_head-from d long size x e = rw e at (granted_head-sees d long size)

  module _ (d : Desk) (long : length d.queued ≡ site_limit) (size : d.size ≤ site_limit) where
    -- k has been queued, and is the head: the answers
    answers-same : (k former : ℕ) → map sent_of (answers d k former) ≡ sent_by d.number (A.answers (setting_at d) (seen d) k former).messages
    unfolding answers fail_former inquire_or_fail A.answers A.fail_former A.inquire_or_fail sent_by
    answers-same k former =
        let h = head_of-same d _ refl in
        by_bool (eqb (A.head_of (setting_at d) (asks_in d.queued)) k)
        (λ e. by_bool (former_told d k former)
        (λ x. by_bool (comes_before (site_key d k) (holder_key d)) (λ y. rw (h, e, x, y)) (λ y. rw (h, e, x, y)))
        (λ x. by_bool (comes_before (site_key d k) (holder_key d)) (λ y. rw (h, e, x, y)) (λ y. rw (h, e, x, y))))
        (λ e. rw (h, e))

    answers-tables : (p : Setting) (v : P.View) (k former : ℕ) → (A.answers p v k former).tables ≡ v.tables
    unfolding A.answers A.fail_former A.inquire_or_fail
    answers-tables p v k former =
        by_bool (eqb (A.head_of p v.tables.queued) k)
        (λ e. by_bool (A.former_told p v.tables k former)
        (λ x. by_bool (A.before_holder p v.tables k) (λ y. rw (e, x, y)) (λ y. rw (e, x, y)))
        (λ x. by_bool (A.before_holder p v.tables k) (λ y. rw (e, x, y)) (λ y. rw (e, x, y))))
        (λ e. rw e)

  module _ (d : Desk) (long : length d.queued ≡ site_limit) (size : d.size ≤ site_limit) where
    queued_up-sees : (k n : ℕ) → 1 ≤ k → k ≤ site_limit → Sees l (queued_up d k n) (A.queued_up (setting_at d) (seen d) k (ask_with n))
    unfolding queued_up A.queued_up
    queued_up-sees k n lo hi =
        let u = with_queued d k n in
        let q = queue-put d.queued k n long lo hi in
        let long' = length-put d.queued k n ∙ long in
        record {
          tables = rw q (sym (answers-tables u long' size (setting_at d) _ k _));
          sent = rw (head_of-same d _ refl) (rw q at (answers-same u long' size k (A.head_of (setting_at d) (asks_in d.queued))));
        }

    pub request-sees : (k n : ℕ) → 1 ≤ k → k ≤ site_limit → Sees l (cond (eqb (holder_of d) 0) (granted d k n) (queued_up d k n)) (A.on_request (setting_at d) (seen d) k (ask_with n))
    unfolding A.on_request
    request-sees k n lo hi = by_bool (eqb (holder_of d) 0) (λ e. rw e (granted-sees d long k n lo hi)) (λ e. rw e (queued_up-sees k n lo hi))

    -- the plain release of the holder, the early one, and a late one
    pub release-sees : (k n : ℕ) → 1 ≤ k → k ≤ site_limit → Sees l (on_release d k 0 n) (A.on_release (setting_at d) (seen d) k n)
    unfolding on_release holder_releases from_holder is_early early_release A.on_release A.early_release
    release-sees k n lo hi =
        let q = queue-put d.queued k 0 long lo hi in
        by_bool (eqb n (grant_of d) && eqb k (holder_of d))
        (λ e. rw e (granted_head-from (free d (grant_of d) d.queued) long size _ refl))
        (λ e. by_bool (eqb n (suc (grant_of d)) && not (eqb (queued_at d k) 0))
        (λ f. rw (e, add-one, f) (granted_head-from (free d (suc (grant_of d)) (without d k)) (length-put d.queued k 0 ∙ long) size _ (rw q)))
        (λ f. rw (e, add-one, f) (nothing d)))

    -- a hand-over has the next grant number: named, so that the edit `hand_over_keeps_grant` is refused by it
    takes_over-grant : (x : ℕ) → (heir_takes_over d x).desk.arbiter.grant ≡ suc (grant_of d)
    unfolding heir_takes_over
    takes_over-grant x = omega arith

    takes_over-sees : (x : ℕ) → 1 ≤ x → x ≤ site_limit → Sees l (heir_takes_over d x) (A.heir_takes_over (setting_at d) (seen d) x)
    unfolding heir_takes_over head_named inquire_if_before A.heir_takes_over sent_by
    takes_over-sees x lo hi =
        let u = held_by d (grant_of d + 1) x (queued_at d x) (without d x) in
        let q = queue-put d.queued x 0 long lo hi in
        let h = head_of-same u _ q in
        let y = A.head_of (setting_at d) (update (asks_in d.queued) x no_ask) in
        let at_y : at 0 (without d x) y ≡ (update (asks_in d.queued) x no_ask y).number = ap (λ (f : ℕ → Ask). (f y).number) q in
        by_bool (eqb y 0)
        (λ e. rw e (record { tables = rw (q, add-one); sent = rw (h, e) }))
        (λ e. by_bool (before (update (asks_in d.queued) x no_ask y) y (ask_with (queued_at d x)) x)
        (λ f. rw (e, f) (record { tables = rw (q, add-one); sent = rw (h, e, at_y, f, add-one) }))
        (λ f. rw (e, f) (record { tables = rw (q, add-one); sent = rw (h, e, at_y, f, add-one) })))

    not-early : (k x n : ℕ) → eqb x 0 ≡ false → is_early d k x n ≡ false
    unfolding is_early
    not-early k x n e = rw e (by_bool (eqb n (grant_of d + 1)) (λ f. rw f) (λ f. rw f))

    -- the release that names the heir x
    pub hand_over-sees : (k x n : ℕ) → 1 ≤ x → x ≤ site_limit → Sees l (on_release d k x n) (A.on_hand_over (setting_at d) (seen d) k x n)
    unfolding on_release holder_releases from_holder A.on_hand_over
    hand_over-sees k x n lo hi =
        let x0 : eqb x 0 ≡ false = ne_eqb x 0 (λ z. omega arith) in
        let ne = not-early k x n x0 in
        by_bool (eqb n (grant_of d) && eqb k (holder_of d))
        (λ e. by_bool (eqb (queued_at d x) 0)
        (λ f. rw (e, f, x0) (nothing d))
        (λ f. rw (e, f, x0) (takes_over-sees x lo hi)))
        (λ e. rw (e, ne) (nothing d))

    pub yield-sees : (k n : ℕ) → 1 ≤ k → k ≤ site_limit → Sees l (on_yield d k n) (A.on_yield (setting_at d) (seen d) k n)
    unfolding on_yield from_holder A.on_yield
    yield-sees k n lo hi =
        by_bool (eqb n (grant_of d) && eqb k (holder_of d))
        (λ e. rw e (granted_head-from (free d (grant_of d) (put d.queued k d.arbiter.seq)) (length-put d.queued k d.arbiter.seq ∙ long) size _ (rw (queue-put d.queued k d.arbiter.seq long lo hi))))
        (λ e. rw e (nothing d))

-- What each rule leaves

-- another arbiter and queue
kept-arbiter : (d : Desk) (a : Arbiter) (q : List ℕ) → length q ≡ site_limit → SiteKept d (with_arbiter d a q)
kept-arbiter d a q e = record { size = refl; number = refl; members = refl; site = refl; held = refl; heir = refl; inquired = refl; queued = e }

granted-kept : (d : Desk) (k n : ℕ) → length d.queued ≡ site_limit → SiteKept d (granted d k n).desk
unfolding granted
granted-kept d k n e = kept-arbiter d _ _ (length-put d.queued k 0 ∙ e)

granted_head-kept : (d : Desk) → length d.queued ≡ site_limit → SiteKept d (granted_head d).desk
unfolding granted_head
granted_head-kept d e = by_bool (eqb (head_of d) 0) (λ f. rw f (kept d e)) (λ f. rw f (granted-kept d _ _ e))

-- the head is granted, once the arbiter or its queue has changed
then-granted : (d : Desk) (a : Arbiter) (q : List ℕ) → length q ≡ site_limit → SiteKept d (granted_head (with_arbiter d a q)).desk
then-granted d a q e = kept_then d (with_arbiter d a q) _ (kept-arbiter d a q e) (granted_head-kept (with_arbiter d a q) e)

pub request-kept : (d : Desk) (k n : ℕ) → length d.queued ≡ site_limit → SiteKept d (cond (eqb (holder_of d) 0) (granted d k n) (queued_up d k n)).desk
unfolding queued_up
request-kept d k n e = by_bool (eqb (holder_of d) 0) (λ f. rw f (granted-kept d k n e)) (λ f. rw f (kept-arbiter d _ _ (length-put d.queued k n ∙ e)))

pub release-kept : (d : Desk) (k x n : ℕ) → length d.queued ≡ site_limit → SiteKept d (on_release d k x n).desk
unfolding on_release holder_releases heir_takes_over early_release
release-kept d k x n e =
    by_bool (from_holder d k n)
    (λ f. by_bool (eqb x 0)
    (λ g. rw (f, g) (then-granted d _ d.queued e))
    (λ g. by_bool (eqb (queued_at d x) 0) (λ h. rw (f, g, h) (kept d e)) (λ h. rw (f, g, h) (kept-arbiter d _ _ (length-put d.queued x 0 ∙ e)))))
    (λ f. by_bool (is_early d k x n)
    (λ g. rw (f, g) (then-granted d _ (without d k) (length-put d.queued k 0 ∙ e)))
    (λ g. rw (f, g) (kept d e)))

pub yield-kept : (d : Desk) (k n : ℕ) → length d.queued ≡ site_limit → SiteKept d (on_yield d k n).desk
unfolding on_yield
yield-kept d k n e =
    by_bool (from_holder d k n)
    (λ f. rw f (then-granted d _ _ (length-put d.queued k d.arbiter.seq ∙ e)))
    (λ f. rw f (kept d e))
