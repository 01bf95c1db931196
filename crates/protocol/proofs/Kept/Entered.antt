-- A site enters. If it is a member, it holds the permission, so it is the owner; the arbiter forgets that it waits. If it is not, nothing
-- of this arbiter speaks of it. Its remembered inquires are gone, so S4 and L3 hold whatever was remembered before.
use Prim.Native.Nat.{ℕ}
use mathlib.Core.Path.{◌≡◌, refl, sym}
use mathlib.Core.Logic.{inr, ◌≢◌}
use mathlib.Core.Bool.{true, false}
use mathlib.Core.List.{List}
use native.Mathlib.Omega.{arith}
use lib.Dec.{eqb}
use borrow.Author.Tests.{eqb-true, eqb-false, eq-eqb, ne_eqb}
use Rattle.basics.specs.Helpers.{update}
use Rattle.protocol.specs.Message.{Message}
use Rattle.protocol.specs.Setting.{Setting}
use Rattle.protocol.specs.Local.{WAITING, Local, view}
use Rattle.protocol.specs.Site.{entered}
use Rattle.basics.proofs.Basics.{by_bool, clash}
use Rattle.protocol.proofs.Invariant.{Ghost, FREE, HELD, ghost, situation, InquiryFits, OwedIn, Core, Invariant}
use Rattle.protocol.proofs.Fitting.{fix, no-request, all-mode}
use Rattle.protocol.proofs.Owing.{fix-owed, ascending-update}

module _ (p : Setting) where
  -- a member enters
  entered-member : (t : Local) (b d : ℕ) (known : ℕ → ℕ) (ms : List Message) → t.mode b ≡ WAITING → Core p t (ghost b d HELD known) ms → Core p (entered (view t ms) b).tables (ghost b d HELD (update known b 0)) ms
  unfolding entered update
  entered-member t b d known ms w c =
      let busy = c.arbiter.when_taken (λ z. omega arith) in
      let kb : known b ≢ 0 = λ z. let y = c.asks.held_inside refl z in omega arith in
      let r = c.under_way.requests b w busy.0 in
      let bb = eq-eqb b b refl in
      record {
        arbiter = c.arbiter;
        asks = record {
          queued_if_known = λ k ne. rw (ne_eqb k b ne) (c.asks.queued_if_known k ne);
          empty_if_unknown = λ k ne. rw (ne_eqb k b ne) (c.asks.empty_if_unknown k ne);
          owner_entry = rw bb (λ h. absurd (h refl));
          out_known = λ z. absurd (omega arith);
          held_inside = λ z h. rw bb;
          yielded_failed = λ z. absurd (omega arith);
          released_left = λ z. absurd (omega arith);
          known_waits = λ k. by_bool (eqb k b) (λ e. rw e (λ x. absurd (x refl))) (λ e. rw e (c.asks.known_waits k));
          inside_holds = λ k. by_bool (eqb k b) (λ e. rw e (λ x y. (eqb-true k b e, refl))) (λ e. rw e (c.asks.inside_holds k));
          waiting_numbered = λ k. by_bool (eqb k b) (λ e. rw e (λ x. absurd (omega arith))) (λ e. rw e (c.asks.waiting_numbered k));
          not_waiting_clear = λ k. by_bool (eqb k b) (λ e. rw e (λ x. (refl, refl))) (λ e. rw e (c.asks.not_waiting_clear k));
        };
        column = record {
          holds = c.column.holds;
          number = c.column.number;
          heirs = c.column.heirs;
          remembered = λ k. by_bool (eqb k b) (λ e. rw e (λ x. absurd (x refl))) (λ e. rw e (c.column.remembered k));
        };
        under_way = record {
          permissions = c.under_way.permissions;
          requests = λ k. by_bool (eqb k b) (λ e. rw e (λ x. absurd (omega arith))) (λ e. rw e (c.under_way.requests k));
          hand_overs = c.under_way.hand_overs;
          fit = all-mode p (situation t b d HELD) _ _ b ms (λ k ne. (rw (ne_eqb k b ne), rw (ne_eqb k b ne))) (omega arith) c.under_way.fit;
          ordered = c.under_way.ordered;
        };
      }

  -- a site enters that does not have this arbiter in its set
  entered-other-set : (t : Local) (o : Ghost) (b : ℕ) (ms : List Message) → t.mode b ≡ WAITING → p.member b ≡ false → Core p t o ms → Core p (entered (view t ms) b).tables o ms
  unfolding entered update
  entered-other-set t o b ms w nm c =
      let nb : (k : ℕ) → p.member k ≡ true → eqb k b ≡ false = λ k m. ne_eqb k b (λ z. clash (p.member k) m (rw z nm)) in
      record {
        arbiter = c.arbiter;
        asks = record {
          queued_if_known = λ k ne h. rw (nb k (c.asks.known_waits k h).1) (c.asks.queued_if_known k ne h);
          empty_if_unknown = c.asks.empty_if_unknown;
          owner_entry = λ h. rw (nb o.owner (c.asks.known_waits o.owner h).1) (c.asks.owner_entry h);
          out_known = c.asks.out_known;
          held_inside = λ z h. by_bool (eqb o.owner b) (λ e. rw e) (λ e. rw e (c.asks.held_inside z h));
          yielded_failed = λ z. let y = c.asks.yielded_failed z in rw (nb o.owner (c.asks.known_waits o.owner y.0).1) y;
          released_left = λ z. rw (nb o.owner (c.arbiter.when_taken (λ u. omega arith)).0) (c.asks.released_left z);
          known_waits = λ k h. let y = c.asks.known_waits k h in rw (nb k y.1) y;
          inside_holds = λ k. by_bool (eqb k b) (λ e. rw e (λ x y. clash (p.member k) y (rw (eqb-true k b e) nm))) (λ e. rw e (c.asks.inside_holds k));
          waiting_numbered = λ k. by_bool (eqb k b) (λ e. rw e (λ x. absurd (omega arith))) (λ e. rw e (c.asks.waiting_numbered k));
          not_waiting_clear = λ k. by_bool (eqb k b) (λ e. rw e (λ x. (refl, refl))) (λ e. rw e (c.asks.not_waiting_clear k));
        };
        column = record {
          holds = c.column.holds;
          number = c.column.number;
          heirs = c.column.heirs;
          remembered = λ k. by_bool (eqb k b) (λ e. rw e (λ x. absurd (x refl))) (λ e. rw e (c.column.remembered k));
        };
        under_way = record {
          permissions = c.under_way.permissions;
          requests = λ k. by_bool (eqb k b) (λ e. rw e (λ x. absurd (omega arith))) (λ e. rw e (c.under_way.requests k));
          hand_overs = c.under_way.hand_overs;
          fit = all-mode p (situation t o.owner o.ahead o.stage) _ _ b ms (λ k ne. (rw (ne_eqb k b ne), rw (ne_eqb k b ne)))
              (no-request p (situation t o.owner o.ahead o.stage) b ms (inr nm) c.under_way.fit) c.under_way.fit;
          ordered = c.under_way.ordered;
        };
      }

  -- b enters: S4 need not hold of b before
  pub entered-kept : (t : Local) (o : Ghost) (b : ℕ) (ms : List Message) → t.mode b ≡ WAITING → (p.member b ≡ true → t.held b ≢ 0) → Core p t o ms
      → ((k : ℕ) → k ≢ b → InquiryFits t k) → (o.stage ≡ FREE → (k : ℕ) → (t.queued k).number ≡ 0)
      → OwedIn p t o ms → Invariant p (entered (view t ms) b)
  unfolding entered update
  entered-kept t o b ms w h c m i lv =
      by_bool (p.member b)
      (λ e. let y = c.column.holds b (h e) in (
        ghost b o.ahead HELD (update o.known b 0),
        record {
          core = entered-member t b o.ahead o.known ms w (fix p t o ms b o.ahead HELD y.0 refl (sym y.1) c);
          inquiries_fit = fits-still;
          free_queue_empty = λ z. absurd (omega arith);
          owed = let l = fix-owed p o.owner o.ahead o.stage b o.ahead HELD y.0 refl (sym y.1) lv in record {
            fail_owed = λ k a ne. rw (ne_eqb k b ne) (l.fail_owed k (rw (ne_eqb k b ne) at a) ne);
            inquire_owed = λ u v x. rw (eq-eqb b b refl) (λ z. absurd (z refl));
            ascending = ascending-update p t.inquired b 0 ms (omega arith) lv.ascending;
          };
        },
      ))
      (λ e. (
        o,
        record {
          core = entered-other-set t o b ms w e c;
          inquiries_fit = fits-still;
          free_queue_empty = i;
          owed = let nb : (k : ℕ) → p.member k ≡ true → eqb k b ≡ false = λ k m. ne_eqb k b (λ z. clash (p.member k) m (rw z e)) in record {
            fail_owed = λ k a ne. rw (nb k (c.asks.known_waits k a).1) (lv.fail_owed k a ne);
            inquire_owed = λ u v x d. rw (nb o.owner (c.asks.known_waits o.owner d).1) (lv.inquire_owed u v x d);
            ascending = ascending-update p t.inquired b 0 ms (omega arith) lv.ascending;
          };
        },
      ))
    where
      fits-still : (k : ℕ) → InquiryFits (entered (view t ms) b).tables k
      fits-still k = by_bool (eqb k b) (λ e. rw e (λ x. absurd (x refl))) (λ e. rw e (m k (eqb-false k b e)))
