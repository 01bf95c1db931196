-- A reply arrives. It is the permission (T1), so its site is the owner, waits, and does not hold it yet: a reply is never lost. Now it is
-- held. A remembered inquire of another number is forgotten; L2 asks for one of this number only. The site may then enter, or, if it
-- is failed and remembers an inquire of this number, yield.
use Prim.Native.Nat.{ℕ, ◌≤◌}
use mathlib.Core.Path.{◌≡◌, refl, sym, ◌∙◌}
use mathlib.Core.Logic.{◌≢◌}
use mathlib.Core.Bool.{Bool, true, false, cond}
use mathlib.Core.List.{List, ◌∷◌}
use native.Mathlib.Omega.{arith}
use lib.Dec.{eqb}
use borrow.Author.Tests.{eqb-true, eqb-false, eq-eqb, ne_eqb}
use Rattle.basics.specs.Helpers.{update, tally, All}
use Rattle.protocol.specs.Message.{Message, reply}
use Rattle.protocol.specs.Setting.{Setting}
use Rattle.protocol.specs.Local.{WAITING, Local, view}
use Rattle.protocol.specs.Site.{taken, on_reply}
use Rattle.basics.proofs.Basics.{by_bool}
use Rattle.protocol.proofs.Invariant.{OUT, HELD, ghost, carries_permission, Ordered, Ascending, InquiryFits, Fits, OwedIn, Core, Invariant}
use Rattle.protocol.proofs.Fitting.{fix, all-stage, row-stage}
use Rattle.protocol.proofs.Owing.{fix-owed, ascending-update}
use Rattle.protocol.proofs.Kept.Yielded.{yielded-kept}
use Rattle.protocol.proofs.Kept.Entered.{entered-kept}

module _ (p : Setting) where
  module _ (t : Local) (b d : ℕ) (known : ℕ → ℕ) (f n : ℕ) (ms : List Message) (c : Core p t (ghost b d OUT known) (reply f b n ∷ ms)) where
    -- the tables when b has taken the reply
    after_reply : Local
    after_reply = taken t b n

    -- the permission is held
    reply-core : Core p after_reply (ghost b d HELD known) ms
    unfolding after_reply update Fits All Ordered tally
    reply-core =
        let ok = c.under_way.fit.0 in
        let kb : known b ≢ 0 = c.asks.out_known refl in
        let tk = c.under_way.permissions in
        record {
          arbiter = row-stage p HELD (λ z. omega arith) (λ z. omega arith) (omega arith) c.arbiter;
          asks = record {
            queued_if_known = c.asks.queued_if_known;
            empty_if_unknown = c.asks.empty_if_unknown;
            owner_entry = c.asks.owner_entry;
            out_known = λ z. absurd (omega arith);
            held_inside = λ z y. absurd (kb y);
            yielded_failed = λ z. absurd (omega arith);
            released_left = λ z. absurd (omega arith);
            known_waits = c.asks.known_waits;
            inside_holds = λ k m e. let y = (c.asks.inside_holds k m e).1 in absurd (omega arith);
            waiting_numbered = c.asks.waiting_numbered;
            not_waiting_clear = c.asks.not_waiting_clear;
          };
          column = record {
            holds = λ k. by_bool (eqb k b) (λ e. rw e (λ x. (eqb-true k b e, refl))) (λ e. rw e (λ x. let y = (c.column.holds k x).1 in absurd (omega arith)));
            number = λ z. rw (eq-eqb b b refl) ok.1;
            heirs = λ k x. let y = (c.column.heirs k x).1 in absurd (omega arith);
            remembered = λ k. by_bool (eqb k b)
                (λ e. by_bool (eqb (t.inquired b) n)
                (λ i. rw (e, i) (λ x. let y = eqb-true (t.inquired b) n i in let u = c.column.remembered b (λ z. x (sym y ∙ z)) in rw (eqb-true k b e) (u.0, u.1, omega arith)))
                (λ i. rw (e, i) (λ x. absurd (x refl))))
                (λ e. rw e (c.column.remembered k));
          };
          under_way = record {
            permissions = let z : tally carries_permission ms ≡ 0 = omega arith in z;
            requests = c.under_way.requests;
            hand_overs = c.under_way.hand_overs;
            fit = all-stage p t b d OUT HELD ms (omega arith) c.under_way.fit.1;
            ordered = c.under_way.ordered.1;
          };
        }

    reply-inquiries_fit : ((i : ℕ) → InquiryFits t i) → (k : ℕ) → k ≢ b → InquiryFits after_reply k
    unfolding after_reply update
    reply-inquiries_fit m k ne = rw (ne_eqb k b ne) (m k)

    -- what is owed stays
    reply-owed : OwedIn p t (ghost b d OUT known) (reply f b n ∷ ms) → OwedIn p after_reply (ghost b d HELD known) ms
    unfolding after_reply update All Fits tally Ascending
    reply-owed l =
        let ok = c.under_way.fit.0 in
        record {
          fail_owed = l.fail_owed;
          inquire_owed = λ a u x d1 e1 f1. rw (eq-eqb b b refl) (λ g1. l.inquire_owed a (λ z. omega arith) (omega arith) d1 e1 f1
              (λ z. g1 (rw (eq-eqb (t.inquired b) n (omega arith)) (omega arith))));
          ascending = ascending-update p t.inquired b _ ms (by_bool (eqb (t.inquired b) n) (λ e. rw e (let y = eqb-true (t.inquired b) n e in omega arith)) (λ e. rw e (omega arith))) (λ k. (l.ascending k).1);
        }

    -- then the site enters, yields, or does neither
    reply-fixed : ((i : ℕ) → InquiryFits t i) → (enters : Bool) → OwedIn p t (ghost b d OUT known) (reply f b n ∷ ms) → Invariant p (on_reply p (view t ms) b n enters)
    unfolding on_reply after_reply update All Fits tally
    reply-fixed m enters lv =
        let l = reply-owed lv in
        let ok = c.under_way.fit.0 in
        let kb = c.asks.known_waits b (c.asks.out_known refl) in
        let h0 : eqb (t.held b) 0 ≡ true = by_bool (eqb (t.held b) 0) (λ e. e) (λ e. let y = (c.column.holds b (eqb-false _ _ e)).1 in absurd (omega arith)) in
        let bb = eq-eqb b b refl in
        let n0 : 1 ≤ n = let z = (c.arbiter.when_taken (λ y. omega arith)).3 in omega arith in
        rw (eq-eqb (t.mode b) WAITING kb.0, kb.1, h0)
        (by_bool enters
        (λ e. rw e (entered-kept p after_reply (ghost b d HELD known) b ms kb.0 (λ z. rw bb (λ y. omega arith)) reply-core (reply-inquiries_fit m) (λ z. absurd (omega arith)) l))
        (λ e. by_bool (t.failed b)
        (λ y. by_bool (eqb (t.inquired b) n)
        (λ i. let ce : eqb (cond (eqb (t.inquired b) n) n 0) 0 ≡ false = rw i (ne_eqb n 0 (λ z. omega arith)) in rw (e, bb, y, ce)
        (let u = c.column.remembered b (λ z. let w = eqb-true (t.inquired b) n i in omega arith) in let w = eqb-true (t.inquired b) n i in
        yielded-kept p after_reply (ghost b d HELD known) b ms refl (omega arith) refl kb.0 reply-core (reply-inquiries_fit m) (λ k ne. l.fail_owed k) l.ascending))
        (λ i. let ce : eqb (cond (eqb (t.inquired b) n) n 0) 0 ≡ true = rw i in rw (e, bb, y, ce) (
          ghost b d HELD known,
          record {
            core = reply-core;
            owed = l;
            free_queue_empty = λ z. absurd (omega arith);
            inquiries_fit = λ k. by_bool (eqb k b) (λ r. rw (r, i) (λ x. absurd (x refl))) (λ r. rw r (m k));
          },
        )))
        (λ y. rw (e, bb, y) (
          ghost b d HELD known,
          record {
            core = reply-core;
            owed = l;
            free_queue_empty = λ z. absurd (omega arith);
            inquiries_fit = λ k. by_bool (eqb k b) (λ r. by_bool (eqb (t.inquired b) n) (λ i. rw (r, i) (λ x z. (refl, rw (eqb-true k b r) y))) (λ i. rw (r, i) (λ x. absurd (x refl)))) (λ r. rw r (m k));
          },
        ))))

  -- the rule
  pub on_reply-kept : (t : Local) (f b n : ℕ) (ms : List Message) (enters : Bool) → Invariant p (view t (reply f b n ∷ ms)) → Invariant p (on_reply p (view t ms) b n enters)
  unfolding All Fits
  on_reply-kept t f b n ms enters (o, s) =
      let ok = s.core.under_way.fit.0 in
      reply-fixed t b o.ahead o.known f n ms (fix p t o (reply f b n ∷ ms) b o.ahead OUT ok.0 refl (sym ok.2) s.core) s.inquiries_fit enters (fix-owed p o.owner o.ahead o.stage b o.ahead OUT ok.0 refl (sym ok.2) s.owed)
