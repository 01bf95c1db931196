-- The arbiter grants while the permission is free. The site granted is known, and its entry is its current ask. Every other known site
-- has been failed, or a fail is under way to it, since only the head may not be (L1); and no site left in the queue comes before the
-- new holder, so that L2 asks for nothing.
use Prim.Native.Nat.{ℕ, suc, ◌≤◌}
use mathlib.Core.Path.{◌≡◌, refl, sym, ap, ◌∙◌}
use mathlib.Core.Logic.{◌≢◌}
use mathlib.Core.Bool.{Bool, true, false}
use mathlib.Core.List.{List, [], ◌∷◌, ◌++◌}
use native.Mathlib.Omega.{arith}
use lib.Dec.{eqb}
use borrow.Author.Tests.{eqb-true, eqb-false, eq-eqb, ne_eqb}
use Rattle.basics.specs.Helpers.{update, tally}
use Rattle.protocol.specs.Ask.{Ask, no_ask, is_no_ask}
use Rattle.protocol.specs.Message.{Message, reply, transfer}
use Rattle.protocol.specs.Setting.{Setting, SettingLaw}
use Rattle.protocol.specs.Local.{Local, view, with_arbiter}
use Rattle.protocol.specs.Arbiter.{head_of, granted, granted_head}
use Rattle.basics.proofs.Basics.{by_bool, clash, update_same, update_other}
use Rattle.basics.proofs.Lists.{tally-snoc-no, tally-snoc-yes, all_snoc, all-map-not}
use Rattle.protocol.proofs.Asks.{same_number}
use Rattle.protocol.proofs.Invariant.{Ghost, FREE, OUT, ghost, carries_permission, is_request_of, is_fail_for, Ascending, InquiryFits, Fits, Owed, Core, Invariant}
use Rattle.protocol.proofs.Sending.{ordered-snoc, send-transfer}
use Rattle.protocol.proofs.Fitting.{fits-change}
use Rattle.protocol.proofs.Owing.{owed-send}
use Rattle.protocol.proofs.Head.{asym, head-of}

module _ (p : Setting) where
  -- what is owed while the permission is free
  pub record OwedWhenFree (q ask : ℕ → Ask) (failed : ℕ → Bool) (inquired : ℕ → ℕ) (known : ℕ → ℕ) (ms : List Message) : Type 0 where
    pub fail_owed : (k : ℕ) → known k ≢ 0 → failed k ≡ false → tally (is_fail_for k (ask k)) ms ≡ 0 → head_of p q ≡ k
    pub ascending : (k : ℕ) → Ascending k (inquired k) ms

module _ (p : Setting) (law : SettingLaw p) where
  -- who is queued is a member
  pub queued-member : (t : Local) (o : Ghost) (ms : List Message) → Core p t o ms → (i : ℕ) → (t.queued i).number ≢ 0 → p.member i ≡ true
  queued-member t o ms c i h =
      by_bool (eqb i o.owner)
      (λ e. let io = eqb-true i o.owner e in by_bool (eqb o.stage FREE)
      (λ s. let f = c.arbiter.when_free (eqb-true o.stage FREE s) in let z = c.arbiter.owner_is_holder f.1 in absurd (h (rw (io, z) (same_number c.arbiter.holder_not_queued))))
      (λ s. rw io (c.arbiter.when_taken (eqb-false o.stage FREE s)).0))
      (λ e. by_bool (eqb (o.known i) 0)
      (λ z. absurd (h (same_number (c.asks.empty_if_unknown i (eqb-false i o.owner e) (eqb-true (o.known i) 0 z)))))
      (λ z. (c.asks.known_waits i (eqb-false (o.known i) 0 z)).1))

  -- the permission travels out
  granted-core : (t : Local) (known : ℕ → ℕ) (k : ℕ) (a : Ask) (ms : List Message) → Core p t (ghost 0 0 FREE known) ms → known k ≢ 0 → a ≡ t.ask k
      → Core p (with_arbiter t (suc t.grant) k a (update t.queued k no_ask)) (ghost k 0 OUT known) (ms ++ reply p.arbiter k (suc t.grant) ∷ [])
  unfolding update Fits
  granted-core t known k a ms c kk nk =
      let w = c.asks.known_waits k kk in
      let s1 = c.asks.waiting_numbered k w.0 in
      let an = same_number nk in
      let m1 = reply p.arbiter k (suc t.grant) in
      let h0 : 0 ≡ t.holder = c.arbiter.owner_is_holder refl in
      record {
        arbiter = record {
          ahead_by_one = omega arith;
          owner_is_holder = λ z. refl;
          handed_over = λ z. absurd (z refl);
          when_free = λ z. absurd (omega arith);
          when_taken = λ z. (w.1, w.1, omega arith, omega arith);
          stage_range = omega arith;
          holder_not_queued = rw (eq-eqb k k refl);
        };
        asks = record {
          queued_if_known = λ i ne h. rw (ne_eqb i k ne) (c.asks.queued_if_known i (λ z. let y = law.site_in_range i (c.asks.known_waits i h).1 in omega arith) h);
          empty_if_unknown = λ i ne h. rw (ne_eqb i k ne) (by_bool (eqb i 0) (λ e. ap t.queued (eqb-true i 0 e ∙ h0) ∙ c.arbiter.holder_not_queued) (λ e. c.asks.empty_if_unknown i (eqb-false i 0 e) h));
          owner_entry = λ h. (λ z. nk, λ z. absurd (z refl));
          out_known = λ z. kk;
          held_inside = λ z. absurd (omega arith);
          yielded_failed = λ z. absurd (omega arith);
          released_left = λ z. absurd (omega arith);
          known_waits = c.asks.known_waits;
          inside_holds = λ i m e. let y = (c.asks.inside_holds i m e).1 in absurd (omega arith);
          waiting_numbered = c.asks.waiting_numbered;
          not_waiting_clear = c.asks.not_waiting_clear;
        };
        column = record {
          holds = λ i x. let y = (c.column.holds i x).1 in absurd (omega arith);
          number = λ z. absurd (omega arith);
          heirs = λ i x. let y = (c.column.heirs i x).1 in absurd (omega arith);
          remembered = λ i x. let y = c.column.remembered i x in (y.0, y.1, omega arith);
        };
        under_way = record {
          permissions = rw (tally-snoc-yes carries_permission ms m1 refl) (ap suc c.under_way.permissions);
          requests = λ i x y. rw (tally-snoc-no (is_request_of i) ms m1 refl) (c.under_way.requests i x y);
          hand_overs = λ z. absurd (z refl);
          fit = all_snoc _ ms m1 (all-map-not _ _ carries_permission ms c.under_way.permissions (λ m e a. fits-change p _ _ m (λ i r. (refl, refl)) (λ u. clash (carries_permission m) u e) (omega arith) (λ i x u. absurd (omega arith)) (λ i x u. absurd (omega arith)) a) c.under_way.fit) (refl, omega arith, refl, (law.arbiter_in_range k w.1).0, (law.arbiter_in_range k w.1).1);
          ordered = ordered-snoc ms m1 (λ i e. clash true refl (sym e)) c.under_way.ordered;
        };
      }

  -- nothing new is owed
  granted-owed : (t : Local) (known : ℕ → ℕ) (k : ℕ) (a : Ask) (ms : List Message) → Core p t (ghost 0 0 FREE known) ms → known k ≢ 0 → a ≡ t.queued k → head_of p t.queued ≡ k → OwedWhenFree p t.queued t.ask t.failed t.inquired known ms
      → Owed p (suc t.grant) k a (update t.queued k no_ask) t.ask t.failed t.inquired k 0 1 known (ms ++ reply p.arbiter k (suc t.grant) ∷ [])
  granted-owed t known k a ms c kk nq hk l =
      let r = head-of p law t.queued p.size in
      let k1 = law.site_in_range k (c.asks.known_waits k kk).1 in
      let hz : head_of p t.queued ≢ 0 = λ y. let z = hk in omega arith in
      let a = rw hk at (r.comes_first hz) in
      let r1 = head-of p law (update t.queued k no_ask) p.size in
      owed-send p ms (reply p.arbiter k (suc t.grant)) (λ i. refl) (record {
        fail_owed = λ i x ne f z. absurd (ne (sym (l.fail_owed i x f z) ∙ hk));
        inquire_owed = λ u v w x hd b. absurd (not-before (head_of p (update t.queued k no_ask)) b (r1.found hd) a);
        ascending = l.ascending;
      })
    where
      not-before : (h : ℕ) → p.comes_before (update t.queued k no_ask h) h a k ≡ true → (1 ≤ h) × (h ≤ p.size) × ((update t.queued k no_ask h).number ≢ 0)
          → ((i : ℕ) → 1 ≤ i → i ≤ p.size → (t.queued i).number ≢ 0 → i ≢ k → p.comes_before (t.queued k) k (t.queued i) i ≡ true) → ⊥
      not-before h b f a = by_bool (eqb h k)
          (λ e. f.2 (same_number (ap (update t.queued k no_ask) (eqb-true h k e) ∙ update_same t.queued k no_ask)))
          (λ e. let ne = eqb-false h k e in let o = update_other t.queued k no_ask h ne in
          clash (p.comes_before (t.queued h) h (t.queued k) k) (rw (o, nq) at b) (asym p law (t.queued k) k (t.queued h) h (a h f.0 f.1 (λ z. f.2 (same_number o ∙ z)) ne)))

  -- the grant of the head
  pub granted-kept : (t : Local) (known : ℕ → ℕ) (k : ℕ) (a : Ask) (ms : List Message) → Core p t (ghost 0 0 FREE known) ms → ((i : ℕ) → InquiryFits t i) → known k ≢ 0 → a ≡ t.queued k → a ≡ t.ask k
      → head_of p t.queued ≡ k → OwedWhenFree p t.queued t.ask t.failed t.inquired known ms → Invariant p (granted p (view t ms) k a)
  unfolding granted
  granted-kept t known k a ms c inquiries_fit kk nq nk hk l =
      let v = granted-core t known k a ms c kk nk in
      let lv = granted-owed t known k a ms c kk nq hk l in
      let q1 = update t.queued k no_ask in
      by_bool (eqb (head_of p q1) 0)
      (λ e. rw e (ghost k 0 OUT known, record { core = v; inquiries_fit = inquiries_fit; owed = lv; free_queue_empty = λ z. absurd (omega arith) }))
      (λ e. let f = (head-of p law q1 p.size).found (eqb-false (head_of p q1) 0 e) in
      let mh = queued-member _ _ _ v (head_of p q1) f.2 in
      rw e (
        ghost k 0 OUT known,
        record {
          inquiries_fit = inquiries_fit;
          owed = owed-send p _ (transfer k (head_of p q1) (suc t.grant)) (λ i. refl) lv;
          free_queue_empty = λ z. absurd (omega arith);
          core = record {
            arbiter = v.arbiter;
            asks = v.asks;
            column = v.column;
            under_way = send-transfer p _ k (head_of p q1) (suc t.grant) (omega arith) (omega arith) refl f.2 (c.asks.known_waits k kk).1 mh v.under_way;
          };
        },
      ))

  -- the grant of the head, if any
  pub granted_head-kept : (t : Local) (known : ℕ → ℕ) (ms : List Message) → Core p t (ghost 0 0 FREE known) ms → ((i : ℕ) → InquiryFits t i) → OwedWhenFree p t.queued t.ask t.failed t.inquired known ms → Invariant p (granted_head p (view t ms))
  unfolding granted_head
  granted_head-kept t known ms c inquiries_fit l =
      let r = head-of p law t.queued p.size in
      by_bool (eqb (head_of p t.queued) 0)
      (λ e. let none_in : (i : ℕ) → (t.queued i).number ≡ 0 = λ i. by_bool (is_no_ask (t.queued i)) (λ f. eqb-true (t.queued i).number 0 f)
      (λ f. let y = law.site_in_range i (queued-member _ _ _ c i (eqb-false (t.queued i).number 0 f)) in r.empty (eqb-true (head_of p t.queued) 0 e) i y.0 y.1) in
      rw e (
        ghost 0 0 FREE known,
        record {
          core = c;
          inquiries_fit = inquiries_fit;
          free_queue_empty = λ z. none_in;
          owed = record {
            fail_owed = λ i x ne f z. let y = same_number (c.asks.queued_if_known i ne x) in let w = c.asks.waiting_numbered i (c.asks.known_waits i x).0 in let v = none_in i in absurd (omega arith);
            inquire_owed = λ u v. absurd (v refl);
            ascending = l.ascending;
          };
        },
      ))
      (λ e. let f = r.found (eqb-false (head_of p t.queued) 0 e) in
      let kk : known (head_of p t.queued) ≢ 0 = λ z. f.2 (same_number (c.asks.empty_if_unknown (head_of p t.queued) (λ y. omega arith) z)) in
      rw e (granted-kept t known (head_of p t.queued) (t.queued (head_of p t.queued)) ms c inquiries_fit kk refl (c.asks.queued_if_known (head_of p t.queued) (λ y. omega arith) kk) refl l))
