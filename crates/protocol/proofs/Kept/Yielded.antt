-- A site yields: it waits and holds the permission with a number that the arbiter knows, so the arbiter is not behind. The permission
-- travels back, the site is failed, and it stays known, so that the arbiter will queue it again. S4 and L1 need not hold of the
-- site beforehand: it is failed now, and remembers nothing.
use Prim.Native.Nat.{ℕ, suc, ◌+◌, ◌≤◌}
use mathlib.Core.Path.{◌≡◌, refl, sym, ap, ◌∙◌}
use mathlib.Core.Logic.{◌≢◌}
use mathlib.Core.Bool.{true, false}
use mathlib.Core.List.{List}
use native.Mathlib.Omega.{arith}
use lib.Dec.{eqb}
use borrow.Author.Tests.{eqb-true, eqb-false, eq-eqb, ne_eqb}
use Rattle.basics.specs.Helpers.{update, tally}
use Rattle.protocol.specs.Message.{Message, yield}
use Rattle.protocol.specs.Setting.{Setting}
use Rattle.protocol.specs.Local.{WAITING, INSIDE, Local, view}
use Rattle.protocol.specs.Arbiter.{head_of, before_holder}
use Rattle.protocol.specs.Site.{yielded}
use Rattle.basics.proofs.Basics.{by_bool}
use Rattle.basics.proofs.Lists.{tally-snoc-no, tally-snoc-yes, all_snoc, snoc-zero}
use Rattle.protocol.proofs.Invariant.{Ghost, HELD, YIELDED, ghost, carries_permission, is_request_of, is_fail_for, Ascending, InquiryFits, Fits, Core, Invariant}
use Rattle.protocol.proofs.Sending.{ordered-snoc}
use Rattle.protocol.proofs.Fitting.{fix, all-stage, row-stage}
use Rattle.protocol.proofs.Owing.{ascending-low, ascending-other}

module _ (p : Setting) where
  -- b, who holds j and waits, yields it
  pub yielded-core : (t : Local) (known : ℕ → ℕ) (b : ℕ) (ms : List Message) → Core p t (ghost b 0 HELD known) ms → t.mode b ≡ WAITING
      → Core p (yielded (view t ms) b).tables (ghost b 0 YIELDED known) (yielded (view t ms) b).messages
  unfolding yielded update Fits
  yielded-core t known b ms c w =
      let busy = c.arbiter.when_taken (λ z. omega arith) in
      let kb : known b ≢ 0 = λ z. let y = c.asks.held_inside refl z in omega arith in
      let k1 = c.asks.known_waits b kb in
      let r = c.under_way.requests b w busy.0 in
      record {
        arbiter = row-stage p YIELDED (λ z. omega arith) (λ z. omega arith) (omega arith) c.arbiter;
        asks = record {
          queued_if_known = c.asks.queued_if_known;
          empty_if_unknown = c.asks.empty_if_unknown;
          owner_entry = c.asks.owner_entry;
          out_known = λ z. absurd (omega arith);
          held_inside = λ z. absurd (omega arith);
          yielded_failed = λ z. (kb, rw (eq-eqb b b refl), refl);
          released_left = λ z. absurd (omega arith);
          known_waits = c.asks.known_waits;
          inside_holds = λ k m e. let y = c.asks.inside_holds k m e in let z : t.mode b ≡ INSIDE = rw (← y.0) m in absurd (omega arith);
          waiting_numbered = c.asks.waiting_numbered;
          not_waiting_clear = λ k. by_bool (eqb k b) (λ e. rw e (λ m. absurd (m (rw (eqb-true k b e) w)))) (λ e. rw e (c.asks.not_waiting_clear k));
        };
        column = record {
          holds = λ k. by_bool (eqb k b) (λ e. rw e (λ h. absurd (h refl))) (λ e. rw e (λ h. absurd (eqb-false k b e (c.column.holds k h).0)));
          number = λ z. absurd (omega arith);
          heirs = λ k. by_bool (eqb k b) (λ e. rw e (λ h. absurd (h refl))) (λ e. rw e (λ h. absurd (eqb-false k b e (c.column.heirs k h).0)));
          remembered = λ k. by_bool (eqb k b) (λ e. rw e (λ h. absurd (h refl))) (λ e. rw e (c.column.remembered k));
        };
        under_way = record {
          permissions = rw (tally-snoc-yes carries_permission ms (yield b (t.held b)) refl) (ap suc c.under_way.permissions);
          requests = λ k x y. rw (tally-snoc-no (is_request_of k) ms (yield b (t.held b)) refl) (c.under_way.requests k x y);
          hand_overs = λ z. absurd (z refl);
          fit = all_snoc _ ms (yield b (t.held b)) (all-stage p t b 0 HELD YIELDED ms c.under_way.permissions c.under_way.fit) (refl, c.column.number refl, refl);
          ordered = ordered-snoc ms (yield b (t.held b)) (λ i e. rw (eqb-true i b e) (omega arith)) c.under_way.ordered;
        };
      }

  -- L1 of one site, and of all but one
  abbrev pub OwedTo : Local → Ghost → List Message → ℕ → Type 0
  OwedTo t o ms k = o.known k ≢ 0 → k ≢ o.owner → t.failed k ≡ false → tally (is_fail_for k (t.ask k)) ms ≡ 0 → (head_of p t.queued ≡ k) × (before_holder p t k ≡ true)

  abbrev pub OwedBut : Local → Ghost → List Message → ℕ → Type 0
  OwedBut t o ms b = (k : ℕ) → k ≢ b → OwedTo t o ms k

  -- b yields: S4 and L1 need not hold of b before
  pub yielded-kept : (t : Local) (o : Ghost) (b : ℕ) (ms : List Message) → b ≡ o.owner → 0 ≡ o.ahead → HELD ≡ o.stage → t.mode b ≡ WAITING → Core p t o ms
      → ((k : ℕ) → k ≢ b → InquiryFits t k) → OwedBut t o ms b → ((k : ℕ) → Ascending k (t.inquired k) ms) → Invariant p (yielded (view t ms) b)
  unfolding yielded update
  yielded-kept t o b ms x y z w c m ow ascending = (
    ghost b 0 YIELDED o.known,
    record {
      core = yielded-core t o.known b ms (fix p t o ms b 0 HELD x y z c) w;
      inquiries_fit = λ k. by_bool (eqb k b) (λ e. rw e (λ h. absurd (h refl))) (λ e. rw e (m k (eqb-false k b e)));
      free_queue_empty = λ h. absurd (omega arith);
      owed = record {
        fail_owed = λ k a ne. rw (ne_eqb k b ne) (λ f u. ow k ne a (λ v. ne (v ∙ sym x)) f (snoc-zero (is_fail_for k (t.ask k)) ms (yield b (t.held b)) u));
        inquire_owed = λ u v l. absurd (omega arith);
        ascending = λ k. ascending-other k (update t.inquired b 0 k) ms (yield b (t.held b)) refl (by_bool (eqb k b) (λ e. rw e (ascending-low k (t.inquired k) 0 ms (omega arith) (ascending k))) (λ e. rw e (ascending k)));
      };
    },
  )

  -- what a site that waits and remembers an inquire of the number it holds knows
  pub yielder-owns : (t : Local) (o : Ghost) (b : ℕ) (ms : List Message) → Core p t o ms → t.held b ≢ 0 → t.held b ≤ t.grant → (b ≡ o.owner) × (0 ≡ o.ahead) × (HELD ≡ o.stage)
  yielder-owns t o b ms c h l =
      let own = c.column.holds b h in
      let nu : t.held o.owner ≡ t.grant + o.ahead = c.column.number own.1 in
      let hb : t.held b ≡ t.grant + o.ahead = rw own.0 nu in
      (own.0, omega arith, sym own.1)
