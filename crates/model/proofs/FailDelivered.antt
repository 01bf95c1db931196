-- A fail delivered: the definitions and the machine come to the same state of the whole rig. The site yields member after member;
-- the machine has each arbiter see its own part at once.
use Prim.Native.Nat.{ℕ, zero, suc, ◌≤◌}
use mathlib.Core.Path.{◌≡◌, refl, sym, ◌∙◌, ap, fun_ext}
use mathlib.Core.Logic.{◌≢◌}
use mathlib.Core.Bool.{Bool, true, false, ◌&&◌, cond}
use mathlib.Core.List.{List, [], ◌∷◌, ◌++◌, map, map-append}
use native.Mathlib.Omega.{arith}
use lib.Dec.{eqb, leb}
use lib.ListN.{length}
use borrow.Author.Tests.{eqb-true, eqb-false, leb-true, leb-false, le-leb, lt-leb}
use Rattle.basics.proofs.Basics.{by_bool, and_split}
use Rattle.rig.specs.declared.Desk.{Desk}
use Rattle.rig.specs.declared.Message.{Message}
use Rattle.rig.specs.declared.Mode.{Mode}
use Rattle.rig.specs.declared.Mode.TheVariants.{Waiting}
use Rattle.rig.specs.declared.Site.{Site}
use Rattle.rig.specs.Limits.{site_limit}
use Rattle.protocol.specs.Message as M
use Rattle.protocol.specs.Local as P
use Rattle.protocol.specs.Site as S
use Rattle.protocol.specs.System.{setting_of}
use Rattle.protocol.specs.Rig as R
use Rattle.model.specs.Tables.{at, put, cell}
use Rattle.model.specs.State.{Tables, is_waiting, seq_in, size_of, sets_of, has_member, mode_of, desk_of, with_desk}
use Rattle.model.specs.Desk.{Effect, held_for}
use Rattle.model.specs.Site.{failed_set, yielded, must_yield, yielded_if, and_then, yielded_up_to, fail_counts, on_fail}
use Rattle.model.proofs.Tables.{at-put-same, at-put-other, length-put}
use Rattle.model.proofs.Machine.{mode_number, ask_in, system_of, row_of, sent_of, rig_of, local_at, Sized, DeskSized, desk-sized, waits-same, rig-path, sites-path, update_self, sites_with, clock_with, other_row}
use Rattle.model.proofs.SiteDelivered.{of-site, nothing, columns}

leb-step : (k i : ℕ) → k ≢ suc i → leb k (suc i) ≡ leb k i
leb-step k i ne = by_bool (leb k i)
    (λ e. rw e (le-leb k (suc i) (omega (arith, leb-true k i e))))
    (λ e. rw e (lt-leb k (suc i) (omega (arith, leb-false k i e))))

-- failed is set of a site
again : Site → Site
again x = record { mode = Waiting (seq_in x.mode) true; clock = x.clock }

module _ (d : Desk) (y : DeskSized d) where
  -- member j has been yielded, of the members 1 to i
  abbrev pub is_gone : ℕ → ℕ → Bool
  is_gone i j = leb j i && must_yield d j

  -- the messages for member j
  abbrev pub gone_by : ℕ → List M.Message
  gone_by j = cond (must_yield d j) (M.yield d.number (held_for d j) ∷ []) []

  -- a row once the members 1 to i have been looked at
  abbrev pub Cleared : ℕ → List ℕ → List ℕ → Type 0
  Cleared i old row = (j : ℕ) → 1 ≤ j → at 0 row j ≡ cond (is_gone i j) 0 (at 0 old j)

  pub record Yielded (i : ℕ) (e : Effect) : Type 0 where
    pub site : e.desk.site ≡ (failed_set d).site
    pub arbiter : e.desk.arbiter ≡ d.arbiter
    pub queued : e.desk.queued ≡ d.queued
    pub members : e.desk.members ≡ d.members
    pub number : e.desk.number ≡ d.number
    pub held : Cleared i d.held e.desk.held
    pub heir : Cleared i d.heir e.desk.heir
    pub inquired : Cleared i d.inquired e.desk.inquired
    pub sized : DeskSized e.desk
    pub sent : map sent_of e.sent ≡ R.in_order gone_by i

  none_yet : (j : ℕ) → 1 ≤ j → is_gone 0 j ≡ false
  none_yet j l = rw (lt-leb j 0 (omega arith))

  yielded-none : Yielded 0 (yielded_up_to (failed_set d) 0)
  unfolding yielded_up_to failed_set R.in_order
  yielded-none = record {
    site = refl;
    arbiter = refl;
    queued = refl;
    members = refl;
    number = refl;
    held = λ j l. rw (none_yet j l);
    heir = λ j l. rw (none_yet j l);
    inquired = λ j l. rw (none_yet j l);
    sized = record { held = y.held; heir = y.heir; inquired = y.inquired; queued = y.queued };
    sent = refl;
  }

  module _ (i : ℕ) (h : suc i ≤ site_limit) (e : Effect) (w : Yielded i e) where
    -- the next member is as it was
    ahead : is_gone i (suc i) ≡ false
    ahead = rw (lt-leb (suc i) i (omega arith))

    must-same : must_yield e.desk (suc i) ≡ must_yield d (suc i)
    unfolding must_yield
    must-same = rw (w.members, w.held (suc i) (omega arith), w.inquired (suc i) (omega arith), ahead)

    -- a row that stays, and one whose next entry is cleared
    stays : (old row : List ℕ) → must_yield d (suc i) ≡ false → Cleared i old row → Cleared (suc i) old row
    stays old row m c j l = by_bool (eqb j (suc i))
        (λ q. let z = eqb-true j (suc i) q in rw z (c (suc i) (omega arith) ∙ rw (ahead, m, le-leb (suc i) (suc i) (omega arith))))
        (λ q. rw (leb-step j i (eqb-false j (suc i) q)) (c j l))

    goes : (old row : List ℕ) → length row ≡ site_limit → must_yield d (suc i) ≡ true → Cleared i old row → Cleared (suc i) old (put row (suc i) 0)
    goes old row len m c j l = by_bool (eqb j (suc i))
        (λ q. let z = eqb-true j (suc i) q in rw z (at-put-same 0 row (suc i) 0 (omega arith) (omega arith) ∙ rw (m, le-leb (suc i) (suc i) (omega arith))))
        (λ q. let ne = eqb-false j (suc i) q in rw (leb-step j i ne) (at-put-other 0 row (suc i) 0 j ne ∙ c j l))

    yielded-more : Yielded (suc i) (and_then e (yielded_if e.desk (suc i)))
    unfolding yielded_if yielded failed_set again R.in_order R.sent_by
    yielded-more = by_bool (must_yield d (suc i))
        (λ m. rw (must-same, m) (record {
          site = ap again w.site;
          arbiter = w.arbiter;
          queued = w.queued;
          members = w.members;
          number = w.number;
          held = goes d.held e.desk.held w.sized.held m w.held;
          heir = goes d.heir e.desk.heir w.sized.heir m w.heir;
          inquired = goes d.inquired e.desk.inquired w.sized.inquired m w.inquired;
          sized = record { held = length-put e.desk.held (suc i) 0 ∙ w.sized.held; heir = length-put e.desk.heir (suc i) 0 ∙ w.sized.heir; inquired = length-put e.desk.inquired (suc i) 0 ∙ w.sized.inquired; queued = w.sized.queued };
          sent = map-append sent_of e.sent _ ∙ rw (w.sent, m, w.number, w.held (suc i) (omega arith), ahead);
        }))
        (λ m. rw (must-same, m) (record {
          site = w.site;
          arbiter = w.arbiter;
          queued = w.queued;
          members = w.members;
          number = w.number;
          held = stays d.held e.desk.held m w.held;
          heir = stays d.heir e.desk.heir m w.heir;
          inquired = stays d.inquired e.desk.inquired m w.inquired;
          sized = w.sized;
          sent = map-append sent_of e.sent [] ∙ rw (w.sent, m);
        }))

  pub yielded-all : (i : ℕ) → i ≤ site_limit → Yielded i (yielded_up_to (failed_set d) i)
  unfolding yielded_up_to
  yielded-all zero h = yielded-none
  yielded-all (suc i) h = yielded-more i h (yielded_up_to (failed_set d) i) (yielded-all i (omega arith))

each_none : (n : ℕ) → R.in_order (λ i. []) n ≡ []
unfolding R.in_order R.sent_by
each_none zero = refl
each_none (suc n) = rw (each_none n)

in-order-same : (f g : ℕ → List M.Message) (n : ℕ) → ((j : ℕ) → 1 ≤ j → j ≤ n → f j ≡ g j) → R.in_order f n ≡ R.in_order g n
unfolding R.in_order
in-order-same f g zero h = refl
in-order-same f g (suc n) h = rw (in-order-same f g n (λ j a b. h j a (omega arith)), h (suc n) (omega arith) (omega arith))

waiting-number : (m : Mode) → is_waiting m ≡ true → mode_number m ≡ 1
waiting-number m e = eqb-true (mode_number m) 1 (waits-same m ∙ e)

module _ (t : Tables) (z : Sized t) (b : ℕ) (lo : 1 ≤ b) (hi : b ≤ site_limit) (rest ms : List Message) (inside : (j : ℕ) → has_member (sets_of t) b j ≡ true → (1 ≤ j) × (j ≤ size_of t)) (x : ℕ) where
  -- what arbiter j sees of the fail with number x
  abbrev sees : ℕ → P.View
  sees j = S.on_fail (setting_of (system_of t) j) (P.view (local_at t j) []) b x

  -- the machine takes it as the definitions do
  abbrev machine_counts : Bool
  machine_counts = S.fail_counts (λ k. mode_number (mode_of t k)) (λ k. ask_in (mode_of t k)) b x

  counts_same : machine_counts ≡ fail_counts (desk_of t b) x
  unfolding fail_counts desk_of
  counts_same = rw (waits-same (mode_of t b))

  -- an entry of a member that is not yielded
  entry-stays : (row old : List ℕ) (i : ℕ) → must_yield (desk_of t b) i ≡ false → Cleared (desk_of t b) (desk-sized t b z lo hi) (size_of t) old row → at 0 row i ≡ at 0 old i
  unfolding at
  entry-stays row old zero m c = refl
  entry-stays row old (suc i) m c = c (suc i) (omega arith) ∙ rw m (by_bool (leb (suc i) (size_of t)) (λ e. rw e) (λ e. rw e))

  -- and of one that is
  entry-goes : (row old : List ℕ) (i : ℕ) → must_yield (desk_of t b) i ≡ true → Cleared (desk_of t b) (desk-sized t b z lo hi) (size_of t) old row → at 0 row i ≡ 0
  unfolding must_yield desk_of
  entry-goes row old i m c =
      let r = inside i (and_split _ _ m).0 in
      c i r.0 ∙ rw (le-leb i (size_of t) r.1, m)

  module _ (c : fail_counts (desk_of t b) x ≡ true) where
    w : is_waiting (mode_of t b) ≡ true
    unfolding fail_counts desk_of
    w = (and_split (is_waiting (mode_of t b)) _ c).0

    counts : machine_counts ≡ true
    counts = counts_same ∙ c

    abbrev after : Effect
    after = yielded_up_to (failed_set (desk_of t b)) (size_of t)

    all-yielded : Yielded (desk_of t b) (desk-sized t b z lo hi) (size_of t) after
    all-yielded = yielded-all (desk_of t b) (desk-sized t b z lo hi) (size_of t) z.size

    row_seen : (i : ℕ) → other_row t b after.desk i ≡ R.row_of (sees i).tables
    unfolding S.on_fail S.yielded must_yield desk_of cell
    row_seen i =
        let y = all-yielded in
        by_bool (must_yield (desk_of t b) i)
        (λ m. rw (counts, m) (columns t z b lo hi i
        (rw (entry-goes after.desk.held (desk_of t b).held i m y.held))
        (rw (entry-goes after.desk.heir (desk_of t b).heir i m y.heir))
        (rw (entry-goes after.desk.inquired (desk_of t b).inquired i m y.inquired))))
        (λ m. rw (counts, m) (columns t z b lo hi i
        (update_self _ b _ (sym (entry-stays after.desk.held (desk_of t b).held i m y.held)))
        (update_self _ b _ (sym (entry-stays after.desk.heir (desk_of t b).heir i m y.heir)))
        (update_self _ b _ (sym (entry-stays after.desk.inquired (desk_of t b).inquired i m y.inquired)))))

    sent-seen : (i : ℕ) → gone_by (desk_of t b) (desk-sized t b z lo hi) i ≡ (sees i).messages
    unfolding S.on_fail S.yielded must_yield desk_of cell
    sent-seen i = by_bool (must_yield (desk_of t b) i) (λ m. rw (counts, m)) (λ m. rw (counts, m))

    counting-fails : (j : ℕ)
        → rig_of (with_desk t b (on_fail (desk_of t b) x).desk) (rest ++ (on_fail (desk_of t b) x).sent) ≡ R.delivered (system_of t) (rig_of t ms) (map sent_of rest) j (M.fail b x)
    unfolding on_fail R.delivered desk_of failed_set
    counting-fails j =
        let y = all-yielded in
        rw (c, counts)
        (of-site t z b lo hi after.desk (rest ++ after.sent) (record { arbiter = y.arbiter; queued = y.queued })
        ∙ rig-path
        (ap (λ (x : Site). sites_with t b x.mode) y.site ∙ sites-path (update_self _ b _ (waiting-number (mode_of t b) w)) (update_self _ b _ refl) refl)
        (ap (λ (x : Site). clock_with t b x.clock) y.site ∙ update_self _ b _ refl)
        (fun_ext row_seen)
        (map-append sent_of rest after.sent ∙ rw y.sent (ap (λ (x : List R.Sent). map sent_of rest ++ x) (in-order-same _ _ (size_of t) (λ i l h. sent-seen i)))))

  pub fail-delivered : (j : ℕ)
      → rig_of (with_desk t b (on_fail (desk_of t b) x).desk) (rest ++ (on_fail (desk_of t b) x).sent) ≡ R.delivered (system_of t) (rig_of t ms) (map sent_of rest) j (M.fail b x)
  unfolding on_fail R.delivered S.on_fail desk_of R.sent_by
  fail-delivered j =
      by_bool (fail_counts (desk_of t b) x)
      (λ c. counting-fails c j)
      (λ c. rw (c, counts_same, c) (nothing t z b lo hi rest j ∙ rig-path refl refl (update_self _ j _ refl) (rw (each_none (size_of t)))))
