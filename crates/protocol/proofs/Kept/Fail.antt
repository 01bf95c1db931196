-- A fail arrives at a site. If the site waits, it is failed; if it also holds the permission and remembers an inquire, then by S4 the
-- inquire has the held number, and it yields. L1 asks nothing of a failed site, so the fail that is taken off is not missed.
-- The same happens at this arbiter when the fail comes from another one.
use Prim.Native.Nat.{ℕ, ◌≤◌, ◌<◌}
use mathlib.Core.Path.{◌≡◌, refl}
use mathlib.Core.Logic.{◌≢◌}
use mathlib.Core.Bool.{true, false, not}
use mathlib.Core.List.{List, ◌∷◌}
use native.Mathlib.Omega.{arith}
use lib.Dec.{eqb}
use borrow.Author.Tests.{eqb-true, eqb-false, eq-eqb, ne_eqb, not-true}
use Rattle.basics.specs.Helpers.{update, tally, All}
use Rattle.protocol.specs.Message.{Message, fail}
use Rattle.protocol.specs.Setting.{Setting}
use Rattle.protocol.specs.Local.{WAITING, Local, view, with_sites}
use Rattle.protocol.specs.Arbiter.{head_of, before_holder}
use Rattle.protocol.specs.Site.{answers_ask, fail_counts, must_yield, on_fail}
use Rattle.protocol.specs.Rig.{asked}
use Rattle.basics.proofs.Basics.{by_bool, clash, and_split, and-true, not-of}
use Rattle.protocol.proofs.Invariant.{Ghost, FREE, HELD, is_inquire, Ordered, Ascending, InquiryFits, Core, Invariant}
use Rattle.protocol.proofs.Sending.{take-quiet}
use Rattle.protocol.proofs.Kept.Yielded.{OwedTo, OwedBut, yielded-kept, yielder-owns}

module _ (p : Setting) where
  -- the fail may have been the last thing owed to b
  pub on_fail-core : (t : Local) (o : Ghost) (b n : ℕ) (ms : List Message) → Core p t o ms → ((k : ℕ) → InquiryFits t k) → (o.stage ≡ FREE → (k : ℕ) → (t.queued k).number ≡ 0)
      → OwedBut p t o ms b → (fail_counts t.mode t.ask b n ≡ false → OwedTo p t o ms b)
      → (o.ahead ≡ 0 → o.stage ≢ FREE → o.stage ≤ HELD → o.known o.owner ≢ 0 → head_of p t.queued ≢ 0 → before_holder p t (head_of p t.queued) ≡ true → t.inquired o.owner ≢ t.grant → 0 < tally (is_inquire o.owner t.grant) ms)
      → ((k : ℕ) → Ascending k (t.inquired k) ms) → Invariant p (on_fail p (view t ms) b n)
  unfolding on_fail update
  on_fail-core t o b n ms c inquiries_fit free_queue_empty ow idle asked ascending =
      by_bool (fail_counts t.mode t.ask b n)
      (λ e. let w = eqb-true (t.mode b) WAITING (and_split (eqb (t.mode b) WAITING) _ e).0 in
      by_bool (must_yield p t b)
      (λ f. let v = and_split (not (eqb (t.held b) 0)) (not (eqb (t.inquired b) 0)) (and_split (p.member b) _ f).1 in
      let hb = eqb-false (t.held b) 0 (not-true _ v.0) in let ib = eqb-false (t.inquired b) 0 (not-true _ v.1) in
      let q = inquiries_fit b ib hb in
      let l = c.column.remembered b ib in
      let y = yielder-owns p t o b ms c hb (omega arith) in
      rw (e, f) (yielded-kept p t o b ms y.0 y.1 y.2 w c (λ k ne. inquiries_fit k) ow ascending))
      (λ f. rw (e, f) (marked-only w (λ i h. let l = c.column.remembered b i in
      clash (must_yield p t b) (and-true (p.member b) _ l.1 (and-true _ _ (not-of (eqb (t.held b) 0) (ne_eqb (t.held b) 0 h)) (not-of (eqb (t.inquired b) 0) (ne_eqb (t.inquired b) 0 i)))) f))))
      (λ e. rw e (
        o,
        record {
          core = c;
          inquiries_fit = inquiries_fit;
          free_queue_empty = free_queue_empty;
          owed = record {
            inquire_owed = asked;
            ascending = ascending;
            fail_owed = λ k. by_bool (eqb k b) (λ y. rw (eqb-true k b y) (idle e)) (λ y. ow k (eqb-false k b y));
          };
        },
      ))
    where
      marked-only : t.mode b ≡ WAITING → (t.inquired b ≢ 0 → t.held b ≢ 0 → ⊥) → Invariant p (view (with_sites t t.mode t.ask (update t.failed b true)) ms)
      marked-only w f = (
        o,
        record {
          free_queue_empty = free_queue_empty;
          inquiries_fit = λ k. by_bool (eqb k b) (λ e. rw e (λ x y. absurd (f (rw (eqb-true k b e) at x) (rw (eqb-true k b e) at y)))) (λ e. rw e (inquiries_fit k));
          owed = record { inquire_owed = asked; ascending = ascending; fail_owed = λ k. by_bool (eqb k b) (λ e. rw e (λ a ne x. clash true refl x)) (λ e. rw e (ow k (eqb-false k b e))) };
          core = record {
            arbiter = c.arbiter;
            column = c.column;
            under_way = c.under_way;
            asks = record {
              queued_if_known = c.asks.queued_if_known;
              empty_if_unknown = c.asks.empty_if_unknown;
              owner_entry = c.asks.owner_entry;
              out_known = c.asks.out_known;
              held_inside = c.asks.held_inside;
              yielded_failed = λ z. let y = c.asks.yielded_failed z in (y.0, by_bool (eqb o.owner b) (λ e. rw e) (λ e. rw e y.1), y.2);
              released_left = c.asks.released_left;
              known_waits = c.asks.known_waits;
              inside_holds = c.asks.inside_holds;
              waiting_numbered = c.asks.waiting_numbered;
              not_waiting_clear = λ k. by_bool (eqb k b) (λ e. rw e (λ m. absurd (m (rw (eqb-true k b e) w)))) (λ e. rw e (c.asks.not_waiting_clear k));
            };
          };
        },
      )

  -- another arbiter's fail
  pub fail_seen-kept : (t : Local) (b n : ℕ) (ms : List Message) → Invariant p (view t ms) → Invariant p (on_fail p (view t ms) b n)
  fail_seen-kept t b n ms (o, s) = on_fail-core t o b n ms s.core s.inquiries_fit s.free_queue_empty (λ k ne. s.owed.fail_owed k) (λ e. s.owed.fail_owed b) s.owed.inquire_owed s.owed.ascending

  -- this arbiter's own fail
  pub on_fail-kept : (t : Local) (b n : ℕ) (ms : List Message) → Invariant p (view t (fail b n ∷ ms)) → Invariant p (on_fail p (view t ms) b n)
  unfolding All Ordered tally Ascending
  on_fail-kept t b n ms (o, s) =
      let v = s.core in
      let under_way = v.under_way in
      on_fail-core t o b n ms (record {
        arbiter = v.arbiter;
        asks = v.asks;
        column = v.column;
        under_way = take-quiet p (fail b n) ms refl (λ i. refl) (λ h x g. refl) under_way;
      })
      s.inquiries_fit s.free_queue_empty (λ k ne. rw (ne_eqb k b ne) at (s.owed.fail_owed k)) idle s.owed.inquire_owed (λ k. (s.owed.ascending k).1)
    where
      -- a fail for another ask is nothing that is owed to b
      idle : fail_counts t.mode t.ask b n ≡ false → OwedTo p t o ms b
      idle e a =
          let w = eq-eqb (t.mode b) WAITING (s.core.asks.known_waits b a).0 in
          let no : answers_ask (t.ask b) n ≡ false = rw w at e in
          rw (eq-eqb b b refl, no) at (s.owed.fail_owed b a)
