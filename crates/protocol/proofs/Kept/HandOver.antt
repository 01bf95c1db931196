-- A hand-over arrives. One of the current grant number comes from the holder, and its heir is the owner (T5): the arbiter hears of the
-- hand-over and is no longer behind. The head of the rest is named to the new holder, and inquires it if it comes before. An older
-- hand-over is late and changes nothing.
use Prim.Native.Nat.{ℕ, suc, ◌≤◌}
use mathlib.Core.Path.{◌≡◌, refl, sym}
use mathlib.Core.Logic.{◌≢◌}
use mathlib.Core.Bool.{true, false, ◌&&◌}
use mathlib.Core.List.{List, [], ◌∷◌, ◌++◌}
use native.Mathlib.Omega.{arith}
use lib.Dec.{eqb}
use borrow.Author.Tests.{eqb-true, eqb-false, eq-eqb, ne_eqb}
use Rattle.basics.specs.Helpers.{update, tally, All}
use Rattle.protocol.specs.Ask.{no_ask}
use Rattle.protocol.specs.Message.{Message, hand_over, inquire, transfer}
use Rattle.protocol.specs.Setting.{Setting, SettingLaw}
use Rattle.protocol.specs.Local.{Local, view}
use Rattle.protocol.specs.Arbiter.{from_holder, held_by_heir, head_of, heir_takes_over, on_hand_over}
use Rattle.basics.proofs.Basics.{by_bool, clash, and_split, update_other}
use Rattle.basics.proofs.Lists.{all_map, snoc-pos, snoc-zero}
use Rattle.protocol.proofs.Invariant.{FREE, ghost, is_hand_over, is_fail_for, is_inquire, Ordered, Ascending, InquiryFits, Fits, OwedIn, Core, Invariant}
use Rattle.protocol.proofs.Sending.{send-inquire, send-transfer}
use Rattle.protocol.proofs.Fitting.{fix, fits-change}
use Rattle.protocol.proofs.Owing.{ascending-other, ascending-inquire, inquired-low, fix-owed}
use Rattle.protocol.proofs.Head.{head-of, head-remove}
use Rattle.protocol.proofs.Kept.Granted.{queued-member}

module _ (p : Setting) (law : SettingLaw p) where
  -- the arbiter hears of the hand-over
  takes_over-core : (t : Local) (x stage : ℕ) (known : ℕ → ℕ) (k n : ℕ) (ms : List Message) → Core p t (ghost x 1 stage known) (hand_over k x n ∷ ms)
      → Core p (held_by_heir t x) (ghost x 0 stage known) ms
  unfolding update All Ordered tally
  takes_over-core t x stage known k n ms c =
      let ov = c.arbiter.handed_over (λ z. omega arith) in
      record {
        arbiter = record {
          ahead_by_one = omega arith;
          owner_is_holder = λ z. refl;
          handed_over = λ z. absurd (z refl);
          when_free = λ z. let y = (c.arbiter.when_free z).1 in absurd (omega arith);
          when_taken = λ z. let y = c.arbiter.when_taken z in (y.0, y.0, ov.0, omega arith);
          stage_range = c.arbiter.stage_range;
          holder_not_queued = rw (eq-eqb x x refl);
        };
        asks = record {
          queued_if_known = λ i ne h. rw (ne_eqb i x ne) (c.asks.queued_if_known i ne h);
          empty_if_unknown = λ i ne h. rw (ne_eqb i x ne) (c.asks.empty_if_unknown i ne h);
          owner_entry = λ h. (λ z. (c.asks.owner_entry h).1 (λ y. omega arith), λ z. absurd (z refl));
          out_known = c.asks.out_known;
          held_inside = c.asks.held_inside;
          yielded_failed = λ z. let y = (c.asks.yielded_failed z).2 in absurd (omega arith);
          released_left = c.asks.released_left;
          known_waits = c.asks.known_waits;
          inside_holds = c.asks.inside_holds;
          waiting_numbered = c.asks.waiting_numbered;
          not_waiting_clear = c.asks.not_waiting_clear;
        };
        column = record {
          holds = c.column.holds;
          number = λ z. let y = c.column.number z in omega arith;
          heirs = λ i h. let y = (c.column.heirs i h).2 in absurd (omega arith);
          remembered = λ i h. let y = c.column.remembered i h in (y.0, y.1, omega arith);
        };
        under_way = record {
          permissions = c.under_way.permissions;
          requests = c.under_way.requests;
          hand_overs = λ z. absurd (z refl);
          fit = all_map _ _ ms (λ m a. fits-change p _ _ m (λ i r. (refl, refl)) (λ u. (refl, omega arith, refl)) (omega arith) (λ i y u. absurd (omega arith)) (λ i y u. absurd (omega arith)) a) c.under_way.fit.1;
          ordered = c.under_way.ordered.1;
        };
      }

  -- the heir is the holder; the head of the rest is named and may inquire
  heir_takes_over-kept : (t : Local) (x stage : ℕ) (known : ℕ → ℕ) (k n : ℕ) (ms : List Message) → Core p t (ghost x 1 stage known) (hand_over k x n ∷ ms) → ((i : ℕ) → InquiryFits t i)
      → OwedIn p t (ghost x 1 stage known) (hand_over k x n ∷ ms) → Invariant p (heir_takes_over p (view t ms) x)
  unfolding heir_takes_over tally Ascending
  heir_takes_over-kept t x stage known k n ms c inquiries_fit l =
      let v = takes_over-core t x stage known k n ms c in
      let q1 = update t.queued x no_ask in
      let s0 : stage ≢ FREE = λ z. let y = (c.arbiter.when_free z).1 in omega arith in
      let mx = (c.arbiter.when_taken s0).0 in
      let x1 = law.site_in_range x mx in
      let ov = c.arbiter.handed_over (λ z. omega arith) in
      let ow : (i : ℕ) → known i ≢ 0 → i ≢ x → t.failed i ≡ false → tally (is_fail_for i (t.ask i)) ms ≡ 0 → (head_of p q1 ≡ i) × (p.comes_before (q1 i) i (t.queued x) x ≡ true) =
      λ i a ne f z. let w = l.fail_owed i a ne f z in
      let i1 = law.site_in_range i (c.asks.known_waits i a).1 in
      let hz : head_of p t.queued ≢ 0 = (λ y. let u = w.0 in omega arith) in
      let r = rw w.0 at ((head-of p law t.queued p.size).comes_first hz) in
      (head-remove p law t.queued i x w.0 (λ y. omega arith) ne, rw (update_other t.queued x no_ask i ne) (r x x1.0 x1.1 (λ y. omega arith) (λ y. ne (sym y)))) in
      let m0 : (i : ℕ) → Ascending i (t.inquired i) ms = λ i. (l.ascending i).1 in
      by_bool (eqb (head_of p q1) 0)
      (λ e. rw e (
        ghost x 0 stage known,
        record {
          core = v;
          inquiries_fit = inquiries_fit;
          free_queue_empty = λ z. absurd (s0 z);
          owed = record { fail_owed = ow; inquire_owed = λ a b d y hd. absurd (hd (eqb-true (head_of p q1) 0 e)); ascending = m0 };
        },
      ))
      (λ e. let f = (head-of p law q1 p.size).found (eqb-false (head_of p q1) 0 e) in
      let mh = queued-member p law _ _ _ v (head_of p q1) f.2 in
      let tr = transfer x (head_of p q1) (suc t.grant) in
      let m1 = send-transfer p _ x (head_of p q1) (suc t.grant) (omega arith) (omega arith) refl f.2 mx mh v.under_way in
      let a1 : (i : ℕ) → Ascending i (t.inquired i) (ms ++ tr ∷ []) = λ i. ascending-other i (t.inquired i) ms tr refl (m0 i) in
      by_bool (p.comes_before (q1 (head_of p q1)) (head_of p q1) (t.queued x) x)
      (λ b. rw (e, b) (
        ghost x 0 stage known,
        record {
          inquiries_fit = inquiries_fit;
          free_queue_empty = λ z. absurd (s0 z);
          owed = record {
            fail_owed = λ i a ne f z. ow i a ne f (snoc-zero (is_fail_for i (t.ask i)) ms tr (snoc-zero (is_fail_for i (t.ask i)) (ms ++ tr ∷ []) (inquire x (suc t.grant)) z));
            inquire_owed = λ a b d y hd z u. snoc-pos (is_inquire x (suc t.grant)) (ms ++ tr ∷ []) (inquire x (suc t.grant)) (rw (eq-eqb x x refl, eq-eqb (suc t.grant) (suc t.grant) refl));
            ascending = ascending-inquire p t.inquired x (ms ++ tr ∷ []) m1 (inquired-low p v.column) a1;
          };
          core = record {
            arbiter = v.arbiter;
            asks = v.asks;
            column = v.column;
            under_way = send-inquire p _ x (suc t.grant) (omega arith) (omega arith) mx m1;
          };
        },
      ))
      (λ b. rw (e, b) (
        ghost x 0 stage known,
        record {
          inquiries_fit = inquiries_fit;
          free_queue_empty = λ z. absurd (s0 z);
          owed = record {
            fail_owed = λ i a ne f z. ow i a ne f (snoc-zero (is_fail_for i (t.ask i)) ms tr z);
            inquire_owed = λ a b1 d y hd z. clash (p.comes_before (q1 (head_of p q1)) (head_of p q1) (t.queued x) x) z b;
            ascending = a1;
          };
          core = record { arbiter = v.arbiter; asks = v.asks; column = v.column; under_way = m1 };
        },
      )))

  -- the rule
  pub on_hand_over-kept : (t : Local) (k x n : ℕ) (ms : List Message) → Invariant p (view t (hand_over k x n ∷ ms)) → Invariant p (on_hand_over p (view t ms) k x n)
  unfolding on_hand_over All Fits Ordered tally Ascending
  on_hand_over-kept t k x n ms (o, s) =
      let c = s.core in
      let ok = c.under_way.fit.0 in
      by_bool (from_holder t k n)
      (λ e. let w = and_split (eqb n t.grant) (eqb k t.holder) e in
      let y = ok.1 (eqb-true n t.grant w.0) in
      let ov = c.arbiter.handed_over (λ z. let u = y.2 in omega arith) in
      let qx : 1 ≤ (t.queued x).number = rw y.1 ov.0 in
      rw (e, ne_eqb (t.queued x).number 0 (λ z. omega arith))
      (heir_takes_over-kept t x o.stage o.known k n ms (fix p t o (hand_over k x n ∷ ms) x 1 o.stage y.1 (sym y.2) refl c) s.inquiries_fit (fix-owed p o.owner o.ahead o.stage x 1 o.stage y.1 (sym y.2) refl s.owed)))
      (λ e. rw e (
        o,
        record {
          inquiries_fit = s.inquiries_fit;
          free_queue_empty = s.free_queue_empty;
          owed = record { fail_owed = s.owed.fail_owed; inquire_owed = s.owed.inquire_owed; ascending = λ i. (s.owed.ascending i).1 };
          core = record {
            arbiter = c.arbiter;
            asks = c.asks;
            column = c.column;
            under_way = record {
              permissions = c.under_way.permissions;
              requests = c.under_way.requests;
              fit = c.under_way.fit.1;
              ordered = c.under_way.ordered.1;
              hand_overs = λ u. by_bool (is_hand_over t.holder o.owner t.grant (hand_over k x n))
                  (λ f. let a = and_split (eqb t.holder k) (eqb o.owner x && eqb t.grant n) f in let b = and_split (eqb o.owner x) (eqb t.grant n) a.1 in
                  clash (from_holder t k n) (rw (eq-eqb n t.grant (sym (eqb-true t.grant n b.1)), eq-eqb k t.holder (sym (eqb-true t.holder k a.0)))) e)
                  (λ f. rw f at (c.under_way.hand_overs u));
            };
          };
        },
      ))
