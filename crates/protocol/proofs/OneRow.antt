-- A message other than a reply or a fail changes its arbiter's row alone: the sites' modes, numbers and marks stay, what is sent comes
-- at the end, and nobody gets a permission that had none. A fail and a reply change the sites too, in the way the rig says.
use Prim.Native.Nat.{ℕ, suc}
use mathlib.Core.Path.{◌≡◌, refl}
use mathlib.Core.Logic.{◌≢◌}
use mathlib.Core.Bool.{Bool, true, false, not, ◌&&◌, ◌||◌, cond}
use mathlib.Core.List.{List, [], ◌++◌, append_assoc, append-nil}
use lib.Dec.{eqb}
use borrow.Author.Tests.{ne_eqb}
use Rattle.basics.specs.Helpers.{update}
use Rattle.protocol.specs.Ask.{Ask, no_ask, is_no_ask}
use Rattle.protocol.specs.Message.{Message, request, reply, release, hand_over, inquire, fail, yield, transfer, REPLY, FAIL, kind}
use Rattle.protocol.specs.Setting.{Setting}
use Rattle.protocol.specs.Local.{WAITING, Local, View, view, with_arbiter, with_queued}
use Rattle.protocol.specs.Arbiter.{from_holder, is_early, head_of, before_holder, granted, granted_head, former_told, fail_former, inquire_or_fail, answers, queued_up, on_request, early_release, on_release, heir_takes_over, on_hand_over, on_yield}
use Rattle.protocol.specs.Site.{yielded, entered, taken, failed_inquired, on_inquire, names_held, on_transfer, takes, on_reply, must_yield, fail_counts, on_fail, handled}
use Rattle.protocol.specs.Rig.{local_of, row_of, sites_of}
use Rattle.basics.proofs.Basics.{by_bool, clash, and_split, update-marked}

-- a handler appends, keeps the sites' mode, number and mark, and gives nobody the permission
abbrev pub OneRow : (View → View) → Local → List Message → Type 0
OneRow F t ms = (F (view t ms) ≡ view (local_of (sites_of t) (row_of (F (view t [])).tables)) (ms ++ (F (view t [])).messages)) × ((k : ℕ) → t.held k ≡ 0 → (F (view t [])).tables.held k ≡ 0)

-- neither a reply nor a fail
abbrev pub Simple : Message → Type 0
Simple m = (eqb (kind m) REPLY || eqb (kind m) FAIL) ≡ false

module _ (p : Setting) where
  -- each rule in turn
  granted-row : (t : Local) (k : ℕ) (a : Ask) (ms : List Message) → OneRow (λ v. granted p v k a) t ms
  unfolding granted
  granted-row t k a ms = by_bool (eqb (head_of p (update t.queued k no_ask)) 0)
      (λ e. rw e (refl, λ i h. h))
      (λ e. rw e (rw append_assoc, λ i h. h))

  granted_head-row : (t : Local) (ms : List Message) → OneRow (λ v. granted_head p v) t ms
  unfolding granted_head
  granted_head-row t ms = by_bool (eqb (head_of p t.queued) 0)
      (λ e. rw e (rw append-nil, λ i h. h))
      (λ e. rw e (granted-row t (head_of p t.queued) (t.queued (head_of p t.queued)) ms))

  answers-row : (t : Local) (k former : ℕ) (ms : List Message) → OneRow (λ v. answers p v k former) t ms
  unfolding answers fail_former inquire_or_fail
  answers-row t k former ms = by_bool (eqb (head_of p t.queued) k)
      (λ h. by_bool (former_told p t k former)
      (λ e. by_bool (before_holder p t k) (λ f. rw (h, e, f) (simp append_assoc, λ i z. z)) (λ f. rw (h, e, f) (simp append_assoc, λ i z. z)))
      (λ e. by_bool (before_holder p t k) (λ f. rw (h, e, f) (simp append_assoc, λ i z. z)) (λ f. rw (h, e, f) (simp append_assoc, λ i z. z))))
      (λ h. rw h (refl, λ i z. z))

  on_request-row : (t : Local) (k : ℕ) (a : Ask) (ms : List Message) → OneRow (λ v. on_request p v k a) t ms
  unfolding on_request queued_up
  on_request-row t k a ms = by_bool (eqb t.holder 0)
      (λ e. rw e (granted-row t k a ms))
      (λ e. rw e (answers-row (with_queued t k a) k (head_of p t.queued) ms))

  on_release-row : (t : Local) (k n : ℕ) (ms : List Message) → OneRow (λ v. on_release p v k n) t ms
  unfolding on_release early_release
  on_release-row t k n ms = by_bool (from_holder t k n)
      (λ e. rw e (granted_head-row (with_arbiter t t.grant 0 no_ask t.queued) ms))
      (λ e. by_bool (is_early t k n)
      (λ f. rw (e, f) (granted_head-row (with_arbiter t (suc t.grant) 0 no_ask (update t.queued k no_ask)) ms))
      (λ f. rw (e, f) (rw append-nil, λ i h. h)))

  heir_takes_over-row : (t : Local) (x : ℕ) (ms : List Message) → OneRow (λ v. heir_takes_over p v x) t ms
  unfolding heir_takes_over
  heir_takes_over-row t x ms = by_bool (eqb (head_of p (update t.queued x no_ask)) 0)
      (λ e. rw e (rw append-nil, λ i h. h))
      (λ e. by_bool (p.comes_before (update t.queued x no_ask (head_of p (update t.queued x no_ask))) (head_of p (update t.queued x no_ask)) (t.queued x) x)
      (λ f. rw (e, f) (rw append_assoc, λ i h. h))
      (λ f. rw (e, f) (refl, λ i h. h)))

  on_hand_over-row : (t : Local) (k x n : ℕ) (ms : List Message) → OneRow (λ v. on_hand_over p v k x n) t ms
  unfolding on_hand_over
  on_hand_over-row t k x n ms = by_bool (from_holder t k n)
      (λ e. by_bool (is_no_ask (t.queued x))
      (λ f. rw (e, f) (rw append-nil, λ i h. h))
      (λ f. rw (e, f) (heir_takes_over-row t x ms)))
      (λ e. rw e (rw append-nil, λ i h. h))

  on_yield-row : (t : Local) (k n : ℕ) (ms : List Message) → OneRow (λ v. on_yield p v k n) t ms
  unfolding on_yield
  on_yield-row t k n ms = by_bool (from_holder t k n)
      (λ e. rw e (granted_head-row (with_arbiter t t.grant 0 no_ask (update t.queued k t.holder_ask)) ms))
      (λ e. rw e (rw append-nil, λ i h. h))

  on_transfer-row : (t : Local) (b x n : ℕ) (ms : List Message) → OneRow (λ v. on_transfer v b x n) t ms
  unfolding on_transfer
  on_transfer-row t b x n ms = by_bool (names_held t b n)
      (λ e. rw e (rw append-nil, λ i h. h))
      (λ e. rw e (rw append-nil, λ i h. h))

  -- to clear an entry gives nobody the permission
  cleared-held : (t : Local) (b k : ℕ) → t.held k ≡ 0 → update t.held b 0 k ≡ 0
  unfolding update
  cleared-held t b k h = by_bool (eqb k b) (λ e. rw e) (λ e. rw e h)

  on_inquire-row : (t : Local) (b n : ℕ) (ms : List Message) → OneRow (λ v. on_inquire v b n) t ms
  unfolding on_inquire yielded
  on_inquire-row t b n ms = by_bool (eqb (t.mode b) WAITING)
      (λ e. by_bool (eqb (t.held b) 0)
      (λ f. rw (e, f) (rw append-nil, λ i h. h))
      (λ f. by_bool (eqb n (t.held b))
      (λ g. by_bool (t.failed b)
      (λ h. rw (e, f, g, h) (rw (update-marked t.failed b h), λ i z. cleared-held t b i z))
      (λ h. rw (e, f, g, h) (rw append-nil, λ i h. h)))
      (λ g. rw (e, f, g) (rw append-nil, λ i h. h))))
      (λ e. rw e (rw append-nil, λ i h. h))

  -- a fail
  pub on_fail-row : (t : Local) (b n : ℕ) (ms : List Message)
      → (on_fail p (view t ms) b n ≡ view (local_of (record { mode = t.mode; ask = t.ask; failed = cond (fail_counts t.mode t.ask b n) (update t.failed b true) t.failed }) (row_of (on_fail p (view t []) b n).tables)) (ms ++ (on_fail p (view t []) b n).messages))
      × ((k : ℕ) → t.held k ≡ 0 → (on_fail p (view t []) b n).tables.held k ≡ 0)
  unfolding on_fail yielded
  on_fail-row t b n ms = by_bool (fail_counts t.mode t.ask b n)
      (λ e. by_bool (must_yield p t b)
      (λ f. rw (e, f) (refl, λ i z. cleared-held t b i z))
      (λ f. rw (e, f) (rw append-nil, λ i h. h)))
      (λ e. rw e (rw append-nil, λ i h. h))

  -- a reply
  pub on_reply-row : (t : Local) (b n : ℕ) (ent : Bool) (ms : List Message)
      → on_reply p (view t ms) b n ent ≡ view (local_of (cond (takes p t b && ent)
      (record { mode = update t.mode b 2; ask = update t.ask b no_ask; failed = update t.failed b false }) (sites_of t)) (row_of (on_reply p (view t []) b n ent).tables)) (ms ++ (on_reply p (view t []) b n ent).messages)
  unfolding on_reply yielded entered
  on_reply-row t b n ent ms = by_bool (takes p t b)
      (λ e. by_bool ent
      (λ f. rw (e, f) (rw append-nil))
      (λ f. by_bool (failed_inquired (taken t b n) b)
      (λ g. rw (e, f, g) (rw (update-marked t.failed b (and_split (t.failed b) (not (eqb ((taken t b n).inquired b) 0)) g).0)))
      (λ g. rw (e, f, g) (rw append-nil))))
      (λ e. rw e (rw append-nil))

  -- a reply changes what b holds, and nobody else
  pub reply-held : (t : Local) (b n : ℕ) (ent : Bool) (k : ℕ) → k ≢ b → t.held k ≡ 0 → (on_reply p (view t []) b n ent).tables.held k ≡ 0
  unfolding on_reply yielded entered update
  reply-held t b n ent k ne h = by_bool (takes p t b)
      (λ e. by_bool ent
      (λ f. rw (e, f, ne_eqb k b ne) h)
      (λ f. by_bool (failed_inquired (taken t b n) b)
      (λ g. rw (e, f, g, ne_eqb k b ne) h)
      (λ g. rw (e, f, g, ne_eqb k b ne) h)))
      (λ e. rw e h)

  -- so every message but a reply and a fail changes one row
  pub handled-row : (t : Local) (m : Message) (ms : List Message) → Simple m → OneRow (λ v. handled p v false m) t ms
  unfolding handled
  handled-row t (request k a) ms u = on_request-row t k a ms
  handled-row t (reply f k n) ms u = clash true refl u
  handled-row t (release k n) ms u = on_release-row t k n ms
  handled-row t (hand_over k x n) ms u = on_hand_over-row t k x n ms
  handled-row t (inquire k n) ms u = on_inquire-row t k n ms
  handled-row t (fail k n) ms u = clash true refl u
  handled-row t (yield k n) ms u = on_yield-row t k n ms
  handled-row t (transfer k x n) ms u = on_transfer-row t k x n ms
