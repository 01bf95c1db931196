-- A site leaves. If it is a member, it holds the permission. With no heir, the permission travels back in a release. With an heir, by T7
-- the arbiter is not behind and the heir is queued; it waits for the permission with its current ask, and the permission travels
-- out to it, one number ahead of the arbiter, with the hand-over under way that will tell.
use Prim.Native.Nat.{ℕ, suc, ◌+◌, ◌≤◌}
use mathlib.Core.Path.{◌≡◌, refl, sym, ap, ◌∙◌}
use mathlib.Core.Logic.{inl, inr, ◌≢◌}
use mathlib.Core.Bool.{true, false}
use mathlib.Core.List.{List, [], ◌∷◌, ◌++◌}
use native.Mathlib.Omega.{arith}
use lib.Dec.{eqb}
use borrow.Author.Tests.{eqb-true, eqb-false, eq-eqb, ne_eqb}
use Rattle.basics.specs.Helpers.{update, tally, All}
use Rattle.protocol.specs.Ask.{no_ask}
use Rattle.protocol.specs.Message.{Message, reply, release, hand_over}
use Rattle.protocol.specs.Setting.{Setting, SettingLaw}
use Rattle.protocol.specs.Local.{REST, WAITING, INSIDE, Local, view, with_sites, without_entry}
use Rattle.basics.proofs.Basics.{by_bool, clash, update_other}
use Rattle.basics.proofs.Lists.{tally-snoc, tally-snoc-no, tally-snoc-yes, all_snoc, all-map-not}
use Rattle.protocol.proofs.Asks.{same_number}
use Rattle.protocol.proofs.Invariant.{Ghost, OUT, HELD, RELEASED, ghost, carries_permission, is_request_of, is_hand_over, situation, InquiryFits, Fits, Column, Core, Invariant}
use Rattle.protocol.proofs.Sending.{ordered-snoc}
use Rattle.protocol.proofs.Fitting.{fix, fits-change, no-request, all-stage, all-mode, row-stage}
use Rattle.protocol.proofs.Owing.{owed-send, fix-owed, ascending-update}
use Rattle.protocol.proofs.Seen.{leave_seen}

module _ (p : Setting) (law : SettingLaw p) where
  -- the tables when k has left
  abbrev departed : Local → ℕ → Local
  departed t k = without_entry (with_sites t (update t.mode k REST) t.ask t.failed) k

  -- a site leaves that does not have this arbiter in its set
  left-other-set : (t : Local) (o : Ghost) (k : ℕ) (ms : List Message) → t.mode k ≡ INSIDE → p.member k ≡ false → Core p t o ms → Core p (departed t k) o ms
  unfolding update
  left-other-set t o k ms w nm c =
      let nb : (i : ℕ) → p.member i ≡ true → eqb i k ≡ false = λ i m. ne_eqb i k (λ z. clash (p.member i) m (rw z nm)) in
      record {
        arbiter = c.arbiter;
        asks = record {
          queued_if_known = c.asks.queued_if_known;
          empty_if_unknown = c.asks.empty_if_unknown;
          owner_entry = c.asks.owner_entry;
          out_known = c.asks.out_known;
          yielded_failed = c.asks.yielded_failed;
          held_inside = λ z h. rw (nb o.owner (c.arbiter.when_taken (λ u. omega arith)).0) (c.asks.held_inside z h);
          released_left = λ z. rw (nb o.owner (c.arbiter.when_taken (λ u. omega arith)).0) (c.asks.released_left z);
          known_waits = λ i h. let y = c.asks.known_waits i h in rw (nb i y.1) y;
          inside_holds = λ i. by_bool (eqb i k) (λ e. rw e (λ x. absurd (omega arith))) (λ e. rw e (c.asks.inside_holds i));
          waiting_numbered = λ i. by_bool (eqb i k) (λ e. rw e (λ x. absurd (omega arith))) (λ e. rw e (c.asks.waiting_numbered i));
          not_waiting_clear = λ i. by_bool (eqb i k) (λ e. rw e (λ x. rw (eqb-true i k e) (c.asks.not_waiting_clear k (λ z. omega arith)))) (λ e. rw e (c.asks.not_waiting_clear i));
        };
        column = record {
          holds = λ i. by_bool (eqb i k) (λ e. rw e (λ x. absurd (x refl))) (λ e. rw e (c.column.holds i));
          number = λ z. rw (nb o.owner (c.arbiter.when_taken (λ u. omega arith)).0) (c.column.number z);
          heirs = λ i. by_bool (eqb i k) (λ e. rw e (λ x. absurd (x refl))) (λ e. rw e (c.column.heirs i));
          remembered = λ i. by_bool (eqb i k) (λ e. rw e (λ x. absurd (x refl))) (λ e. rw e (c.column.remembered i));
        };
        under_way = record {
          permissions = c.under_way.permissions;
          requests = λ i. by_bool (eqb i k) (λ e. rw e (λ x. absurd (omega arith))) (λ e. rw e (c.under_way.requests i));
          hand_overs = c.under_way.hand_overs;
          fit = all-mode p (situation t o.owner o.ahead o.stage) _ _ k ms (λ i ne. (rw (ne_eqb i k ne), refl))
              (no-request p (situation t o.owner o.ahead o.stage) k ms (inr nm) c.under_way.fit) c.under_way.fit;
          ordered = c.under_way.ordered;
        };
      }

  -- what is common to both ways to leave: the asks and columns that do not speak of the owner
  module _ (t : Local) (k d : ℕ) (known : ℕ → ℕ) (ms : List Message) (w : t.mode k ≡ INSIDE) (c : Core p t (ghost k d HELD known) ms) where
    -- k is not known
    not_known : (i : ℕ) → known i ≢ 0 → eqb i k ≡ false
    not_known i h = ne_eqb i k (λ z. let y = (c.asks.known_waits i h).0 in let u : t.mode i ≡ INSIDE = rw z w in omega arith)

    known-none : known k ≡ 0
    known-none = by_bool (eqb (known k) 0) (λ e. eqb-true (known k) 0 e) (λ e. clash (eqb k k) (eq-eqb k k refl) (not_known k (eqb-false (known k) 0 e)))

    -- no request of k is under way
    no-request-of : tally (is_request_of k) ms ≡ 0
    no-request-of = no-request p (situation t k d HELD) k ms (inl (λ z. omega arith)) c.under_way.fit

    left-inside : (owner stage : ℕ) (i : ℕ) → (departed t k).mode i ≡ INSIDE → p.member i ≡ true → (i ≡ owner) × (stage ≡ HELD)
    unfolding update
    left-inside owner stage i = by_bool (eqb i k) (λ e. rw e (λ x. absurd (omega arith))) (λ e. rw e (λ x y. absurd (eqb-false i k e (c.asks.inside_holds i x y).0)))

    left-waiting : (i : ℕ) → (departed t k).mode i ≡ WAITING → 1 ≤ (t.ask i).number
    unfolding update
    left-waiting i = by_bool (eqb i k) (λ e. rw e (λ x. absurd (omega arith))) (λ e. rw e (c.asks.waiting_numbered i))

    left-clear : (i : ℕ) → (departed t k).mode i ≢ WAITING → (t.ask i ≡ no_ask) × (t.failed i ≡ false)
    unfolding update
    left-clear i = by_bool (eqb i k) (λ e. rw e (λ x. rw (eqb-true i k e) (c.asks.not_waiting_clear k (λ z. omega arith)))) (λ e. rw e (c.asks.not_waiting_clear i))

    left-known : (i : ℕ) → known i ≢ 0 → ((departed t k).mode i ≡ WAITING) × (p.member i ≡ true) × (known i ≡ 1)
    unfolding update
    left-known i h = rw (not_known i h) (c.asks.known_waits i h)

    left-column : (owner d' stage : ℕ) → stage ≢ HELD → Column p t.grant t.queued (departed t k).mode (departed t k).held (departed t k).heir (departed t k).inquired owner d' stage
    unfolding update
    left-column owner d' stage s2 = record {
      holds = λ i. by_bool (eqb i k) (λ e. rw e (λ x. absurd (x refl))) (λ e. rw e (λ x. absurd (eqb-false i k e (c.column.holds i x).0)));
      number = λ z. absurd (s2 z);
      heirs = λ i. by_bool (eqb i k) (λ e. rw e (λ x. absurd (x refl))) (λ e. rw e (λ x. absurd (eqb-false i k e (c.column.heirs i x).0)));
      remembered = λ i. by_bool (eqb i k) (λ e. rw e (λ x. absurd (x refl))) (λ e. rw e (c.column.remembered i));
    }

    left-fit : (owner d' stage : ℕ) → All (Fits p (situation t owner d' stage)) ms → All (Fits p (situation (departed t k) owner d' stage)) ms
    unfolding update
    left-fit owner d' stage a = all-mode p (situation t owner d' stage) _ _ k ms (λ i ne. (rw (ne_eqb i k ne), refl)) no-request-of a

    -- no heir: the permission travels back
    left-released : Core p (departed t k) (ghost k d RELEASED known) (ms ++ release k (t.held k) ∷ [])
    unfolding update Fits
    left-released =
        let z0 = known-none in
        record {
          arbiter = row-stage p RELEASED (λ z. omega arith) (λ z. omega arith) (omega arith) c.arbiter;
          asks = record {
            queued_if_known = c.asks.queued_if_known;
            empty_if_unknown = c.asks.empty_if_unknown;
            owner_entry = c.asks.owner_entry;
            out_known = λ z. absurd (omega arith);
            held_inside = λ z. absurd (omega arith);
            yielded_failed = λ z. absurd (omega arith);
            released_left = λ z. (known-none, rw (eq-eqb k k refl) (λ y. omega arith));
            known_waits = left-known;
            inside_holds = left-inside k 4;
            waiting_numbered = left-waiting;
            not_waiting_clear = left-clear;
          };
          column = left-column k d 4 (λ z. omega arith);
          under_way = record {
            permissions = rw (tally-snoc-yes carries_permission ms (release k (t.held k)) refl) (ap suc c.under_way.permissions);
            requests = λ i. by_bool (eqb i k) (λ e. rw e (λ x. absurd (omega arith))) (λ e. rw (e, tally-snoc-no (is_request_of i) ms (release k (t.held k)) refl) (c.under_way.requests i));
            hand_overs = λ u. let z = c.under_way.hand_overs u in let y = tally-snoc (is_hand_over t.holder k t.grant) ms (release k (t.held k)) in omega arith;
            fit = all_snoc _ ms (release k (t.held k)) (left-fit k d 4 (all-stage p t k d HELD RELEASED ms c.under_way.permissions c.under_way.fit)) (refl, c.column.number refl, refl);
            ordered = ordered-snoc ms (release k (t.held k)) (λ i e. rw (eqb-true i k e) no-request-of) c.under_way.ordered;
          };
        }

  -- with an heir: the permission travels on
  left-handed-over : (t : Local) (k x : ℕ) (known : ℕ → ℕ) (ms : List Message) → t.mode k ≡ INSIDE → (t.queued x).number ≢ 0 → Core p t (ghost k 0 HELD known) ms
      → Core p (departed t k) (ghost x 1 OUT known) ((ms ++ reply k x (suc (t.held k)) ∷ []) ++ hand_over k x (t.held k) ∷ [])
  unfolding update Fits
  left-handed-over t k x known ms w qx c =
      let busy = c.arbiter.when_taken (λ y. omega arith) in
      let hk : k ≡ t.holder = c.arbiter.owner_is_holder refl in
      let qk : t.queued k ≡ no_ask = rw hk c.arbiter.holder_not_queued in
      let xk : x ≢ k = λ z. qx (rw z (same_number qk)) in
      let kx : known x ≢ 0 = λ z. qx (same_number (c.asks.empty_if_unknown x xk z)) in
      let r = law.site_in_range t.holder busy.1 in
      let kr = law.site_in_range k busy.0 in
      let nu : t.held k ≡ t.grant + 0 = c.column.number refl in
      let r1 = reply k x (suc (t.held k)) in
      let r2 = hand_over k x (t.held k) in
      let ms1 = ms ++ r1 ∷ [] in
      let z0 = known-none t k 0 known ms w c in
      record {
        arbiter = record {
          ahead_by_one = omega arith;
          owner_is_holder = λ z. absurd (omega arith);
          handed_over = λ z. (omega arith, r.0, λ y. xk (y ∙ sym hk));
          when_free = λ z. absurd (omega arith);
          when_taken = λ z. ((c.asks.known_waits x kx).1, busy.1, busy.2, busy.3);
          stage_range = omega arith;
          holder_not_queued = c.arbiter.holder_not_queued;
        };
        asks = record {
          queued_if_known = λ i ne h. c.asks.queued_if_known i (eqb-false i k (not_known t k 0 known ms w c i h)) h;
          empty_if_unknown = λ i ne h. by_bool (eqb i k) (λ e. rw (eqb-true i k e) qk) (λ e. c.asks.empty_if_unknown i (eqb-false i k e) h);
          owner_entry = λ h. (λ z. absurd (omega arith), λ z. c.asks.queued_if_known x xk kx);
          out_known = λ z. kx;
          held_inside = λ z. absurd (omega arith);
          yielded_failed = λ z. absurd (omega arith);
          released_left = λ z. absurd (omega arith);
          known_waits = left-known t k 0 known ms w c;
          inside_holds = left-inside t k 0 known ms w c x 1;
          waiting_numbered = left-waiting t k 0 known ms w c;
          not_waiting_clear = left-clear t k 0 known ms w c;
        };
        column = left-column t k 0 known ms w c x 1 1 (λ z. omega arith);
        under_way = record {
          permissions = rw (tally-snoc-no carries_permission ms1 r2 refl, tally-snoc-yes carries_permission ms r1 refl) (ap suc c.under_way.permissions);
          requests = λ i. by_bool (eqb i k) (λ e. rw e (λ x. absurd (omega arith))) (λ e. rw (e, tally-snoc-no (is_request_of i) ms1 r2 refl, tally-snoc-no (is_request_of i) ms r1 refl) (c.under_way.requests i));
          hand_overs = λ u. rw (tally-snoc-yes (is_hand_over t.holder x t.grant) ms1 r2 (rw (eq-eqb t.holder k (sym hk), eq-eqb x x refl, eq-eqb t.grant (t.held k) (omega arith)))) (omega arith);
          fit = all_snoc _ ms1 r2 (all_snoc _ ms r1
              (left-fit t k 0 known ms w c x 1 1 (all-map-not _ _ carries_permission ms c.under_way.permissions (λ m e a. fits-change p _ _ m (λ i r. (refl, refl)) (λ u. clash (carries_permission m) u e) (omega arith) (λ i y u v. let w = v.2 in absurd (omega arith)) (λ i y u v f. f v) a) c.under_way.fit))
              (refl, omega arith, refl, kr.0, kr.1))
              (omega arith, λ u. (hk, refl, refl), busy.0, (c.asks.known_waits x kx).1, omega arith);
          ordered = ordered-snoc ms1 r2 (λ i e. rw (tally-snoc-no (is_request_of i) ms r1 refl, eqb-true i k e) (no-request-of t k 0 known ms w c)) (ordered-snoc ms r1 (λ i e. clash true refl (sym e)) c.under_way.ordered);
        };
      }

  inquiries_fit-left : (t : Local) (k i : ℕ) → InquiryFits t i → InquiryFits (departed t k) i
  unfolding update
  inquiries_fit-left t k i m = by_bool (eqb i k) (λ e. rw e (λ x. absurd (x refl))) (λ e. rw e m)

  -- the event
  pub leave_seen-kept : (t : Local) (k : ℕ) (ms : List Message) → t.mode k ≡ INSIDE → Invariant p (view t ms) → Invariant p (leave_seen p (view t ms) k)
  unfolding leave_seen
  leave_seen-kept t k ms w (o, s) =
      let c = s.core in
      by_bool (p.member k)
      (λ e. let y = c.asks.inside_holds k w e in
      let c1 = fix p t o ms k o.ahead HELD y.0 refl (sym y.1) c in
      let busy = c1.arbiter.when_taken (λ z. omega arith) in
      let nu : t.held k ≡ t.grant + o.ahead = c1.column.number refl in
      let ne : eqb (t.held k) 0 ≡ false = ne_eqb (t.held k) 0 (λ z. omega arith) in
      by_bool (eqb (t.heir k) 0)
      (λ h. rw (e, ne, h) (
        ghost k o.ahead RELEASED o.known,
        record {
          core = left-released t k o.ahead o.known ms w c1;
          inquiries_fit = fits-still;
          free_queue_empty = λ z. absurd (omega arith);
          owed = owed-send p ms (release k (t.held k)) (λ i. refl) (let l = fix-owed p o.owner o.ahead o.stage k o.ahead HELD y.0 refl (sym y.1) s.owed in
              record { fail_owed = l.fail_owed; inquire_owed = λ u v x. absurd (omega arith); ascending = ascending-update p t.inquired k 0 ms (omega arith) s.owed.ascending });
        },
      ))
      (λ h. let x = c1.column.heirs k (eqb-false (t.heir k) 0 h) in
      rw (e, ne, h) (
        ghost (t.heir k) 1 OUT o.known,
        record {
          core = left-handed-over t k (t.heir k) o.known ms w x.3 (fix p t o ms k 0 HELD y.0 (sym x.2) (sym y.1) c);
          inquiries_fit = fits-still;
          free_queue_empty = λ z. absurd (omega arith);
          owed = owed-send p (ms ++ reply k (t.heir k) (suc (t.held k)) ∷ []) (hand_over k (t.heir k) (t.held k)) (λ i. refl) (owed-send p ms (reply k (t.heir k) (suc (t.held k))) (λ i. refl)
              (let l = fix-owed p o.owner o.ahead o.stage k o.ahead HELD y.0 refl (sym y.1) s.owed in
              record { fail_owed = λ i a ne. l.fail_owed i a (eqb-false i k (not_known t k o.ahead o.known ms w c1 i a)); inquire_owed = λ u. absurd (omega arith); ascending = ascending-update p t.inquired k 0 ms (omega arith) s.owed.ascending }));
        },
      )))
      (λ e. rw e (
        o,
        record {
          core = left-other-set t o k ms w e c;
          inquiries_fit = fits-still;
          free_queue_empty = s.free_queue_empty;
          owed = record {
            fail_owed = s.owed.fail_owed;
            ascending = ascending-update p t.inquired k 0 ms (omega arith) s.owed.ascending;
            inquire_owed = λ u v x d. rw (update_other t.inquired k 0 o.owner (λ z. let y = (c.asks.known_waits o.owner d).0 in let a : t.mode o.owner ≡ INSIDE = rw z w in omega arith)) (s.owed.inquire_owed u v x d);
          };
        },
      ))
    where
      fits-still : (i : ℕ) → InquiryFits (departed t k) i
      fits-still i = inquiries_fit-left t k i (s.inquiries_fit i)
