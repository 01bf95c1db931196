-- A site asks. It was at rest, so it held and remembered nothing, was known to no arbiter, and had no request under way; it may still be
-- owner of a permission that it has released. Its new request goes behind its returns (R2), and is not known yet (R1).
use Prim.Native.Nat.{ℕ, ◌≤◌}
use mathlib.Core.Path.{◌≡◌, refl, sym}
use mathlib.Core.Logic.{inl, ◌≢◌}
use mathlib.Core.Bool.{true, false}
use mathlib.Core.List.{List, [], ◌∷◌, ◌++◌}
use native.Mathlib.Omega.{arith}
use lib.Dec.{eqb}
use borrow.Author.Tests.{eqb-true, eqb-false, eq-eqb, ne_eqb}
use Rattle.basics.specs.Helpers.{update, tally, All}
use Rattle.protocol.specs.Ask.{Ask}
use Rattle.protocol.specs.Message.{Message, request}
use Rattle.protocol.specs.Setting.{Setting}
use Rattle.protocol.specs.Local.{REST, WAITING, Local, view, with_sites, without_entry}
use Rattle.basics.proofs.Basics.{by_bool, clash}
use Rattle.basics.proofs.Lists.{tally-snoc, tally-snoc-no, tally-snoc-yes, all_snoc}
use Rattle.protocol.proofs.Invariant.{Ghost, HELD, carries_permission, is_request_of, is_hand_over, situation, InquiryFits, Fits, Asks, Column, OwedIn, UnderWayIn, Core, Invariant}
use Rattle.protocol.proofs.Sending.{ordered-snoc}
use Rattle.protocol.proofs.Fitting.{no-request, all-mode}
use Rattle.protocol.proofs.Owing.{owed-send, ascending-update}
use Rattle.protocol.proofs.Seen.{ask_seen}

module _ (p : Setting) where
  module _ (t : Local) (k : ℕ) (a : Ask) (ms : List Message) (w : t.mode k ≡ REST) (l : 1 ≤ a.number) (o : Ghost) (c : Core p t o ms) where
    -- the tables when k has asked
    waiting : Local
    waiting = without_entry (with_sites t (update t.mode k WAITING) (update t.ask k a) (update t.failed k false)) k

    -- k is not known
    not_known : (i : ℕ) → o.known i ≢ 0 → eqb i k ≡ false
    not_known i h = ne_eqb i k (λ z. let y = (c.asks.known_waits i h).0 in let u : t.mode i ≡ REST = rw z w in omega arith)

    -- k does not hold the permission
    not-held : o.stage ≡ HELD → o.owner ≢ k
    not-held z y =
        let x : t.mode o.owner ≡ REST = rw y w in
        by_bool (eqb (o.known o.owner) 0)
        (λ e. let u = c.asks.held_inside z (eqb-true _ _ e) in omega arith)
        (λ e. let u = (c.asks.known_waits o.owner (eqb-false _ _ e)).0 in omega arith)

    ask-asks : Asks p waiting.holder_ask waiting.queued waiting.mode waiting.ask waiting.failed o.owner o.ahead o.stage o.known
    unfolding waiting update
    ask-asks = record {
      queued_if_known = λ i ne h. rw (not_known i h) (c.asks.queued_if_known i ne h);
      empty_if_unknown = c.asks.empty_if_unknown;
      owner_entry = λ h. rw (not_known o.owner h) (c.asks.owner_entry h);
      out_known = c.asks.out_known;
      held_inside = λ z h. rw (ne_eqb o.owner k (not-held z)) (c.asks.held_inside z h);
      yielded_failed = λ z. let y = c.asks.yielded_failed z in rw (not_known o.owner y.0) y;
      released_left = λ z. by_bool (eqb o.owner k) (λ e. rw e ((c.asks.released_left z).0, λ x. omega arith)) (λ e. rw e (c.asks.released_left z));
      known_waits = λ i h. rw (not_known i h) (c.asks.known_waits i h);
      inside_holds = λ i. by_bool (eqb i k) (λ e. rw e (λ x. absurd (omega arith))) (λ e. rw e (c.asks.inside_holds i));
      waiting_numbered = λ i. by_bool (eqb i k) (λ e. rw e (λ x. l)) (λ e. rw e (c.asks.waiting_numbered i));
      not_waiting_clear = λ i. by_bool (eqb i k) (λ e. rw e (λ x. absurd (x refl))) (λ e. rw e (c.asks.not_waiting_clear i));
    }

    ask-column : Column p waiting.grant waiting.queued waiting.mode waiting.held waiting.heir waiting.inquired o.owner o.ahead o.stage
    unfolding waiting update
    ask-column = record {
      holds = λ i. by_bool (eqb i k) (λ e. rw e (λ x. absurd (x refl))) (λ e. rw e (c.column.holds i));
      number = λ z. rw (ne_eqb o.owner k (not-held z)) (c.column.number z);
      heirs = λ i. by_bool (eqb i k) (λ e. rw e (λ x. absurd (x refl))) (λ e. rw e (c.column.heirs i));
      remembered = λ i. by_bool (eqb i k) (λ e. rw e (λ x. absurd (x refl))) (λ e. rw e (c.column.remembered i));
    }

    -- no request of k is under way
    quiet : tally (is_request_of k) ms ≡ 0
    quiet = no-request p (situation t o.owner o.ahead o.stage) k ms (inl (λ z. omega arith)) c.under_way.fit

    ask-all : All (Fits p (situation waiting o.owner o.ahead o.stage)) ms
    unfolding waiting update
    ask-all = all-mode p (situation t o.owner o.ahead o.stage) _ _ k ms (λ i ne. (rw (ne_eqb i k ne), rw (ne_eqb i k ne))) quiet c.under_way.fit

    ask-inquiries_fit : ((i : ℕ) → InquiryFits t i) → (i : ℕ) → InquiryFits waiting i
    unfolding waiting update
    ask-inquiries_fit m i = by_bool (eqb i k) (λ e. rw e (λ x. absurd (x refl))) (λ e. rw e (m i))

    -- the messages, if k is a member and if not
    ask-under_way : p.member k ≡ true → UnderWayIn p waiting o (ms ++ request k a ∷ [])
    unfolding waiting update Fits
    ask-under_way mk = record {
      permissions = rw (tally-snoc-no carries_permission ms (request k a) refl) c.under_way.permissions;
      requests = λ i. by_bool (eqb i k)
          (λ e. rw e (λ x y. let ik = eqb-true i k e in rw (ik, tally-snoc-yes (is_request_of k) ms (request k a) (eq-eqb k k refl))
          (let z = quiet in by_bool (eqb (o.known k) 0) (λ f. let u = eqb-true (o.known k) 0 f in omega arith) (λ f. clash (eqb k k) (eq-eqb k k refl) (not_known k (eqb-false _ _ f))))))
          (λ e. rw (e, tally-snoc-no (is_request_of i) ms (request k a) e) (c.under_way.requests i));
      hand_overs = λ u. let z = c.under_way.hand_overs u in let w = tally-snoc (is_hand_over t.holder o.owner t.grant) ms (request k a) in omega arith;
      fit = all_snoc _ ms (request k a) ask-all (rw (eq-eqb k k refl) (refl, refl, mk));
      ordered = ordered-snoc ms (request k a) (λ i e. clash true refl (sym e)) c.under_way.ordered;
    }

    ask-under_way' : p.member k ≡ false → UnderWayIn p waiting o ms
    unfolding waiting update
    ask-under_way' mk = record {
      permissions = c.under_way.permissions;
      requests = λ i. by_bool (eqb i k)
          (λ e. rw e (λ x y. clash (p.member i) y (rw (eqb-true i k e) mk)))
          (λ e. rw e (c.under_way.requests i));
      hand_overs = c.under_way.hand_overs;
      fit = ask-all;
      ordered = c.under_way.ordered;
    }

    ask-owed : OwedIn p t o ms → OwedIn p waiting o ms
    unfolding waiting update
    ask-owed l = record {
      fail_owed = λ i h ne. rw (not_known i h) (l.fail_owed i h ne);
      inquire_owed = λ u v x d. rw (not_known o.owner d) (l.inquire_owed u v x d);
      ascending = ascending-update p t.inquired k 0 ms (omega arith) l.ascending;
    }

  -- the event
  pub ask_seen-kept : (t : Local) (k : ℕ) (a : Ask) (ms : List Message) → t.mode k ≡ REST → 1 ≤ a.number → Invariant p (view t ms) → Invariant p (ask_seen p (view t ms) k a)
  unfolding ask_seen waiting
  ask_seen-kept t k a ms w l (o, v) =
      let c = v.core in
      by_bool (p.member k)
      (λ e. rw e (o, record { free_queue_empty = v.free_queue_empty; owed = owed-send p ms (request k a) (λ i. refl) (ask-owed t k a ms w l o c v.owed); inquiries_fit = ask-inquiries_fit t k a ms w l o c v.inquiries_fit; core = record { arbiter = c.arbiter; asks = ask-asks t k a ms w l o c; column = ask-column t k a ms w l o c; under_way = ask-under_way t k a ms w l o c e } }))
      (λ e. rw e (o, record { free_queue_empty = v.free_queue_empty; owed = ask-owed t k a ms w l o c v.owed; inquiries_fit = ask-inquiries_fit t k a ms w l o c v.inquiries_fit; core = record { arbiter = c.arbiter; asks = ask-asks t k a ms w l o c; column = ask-column t k a ms w l o c; under_way = ask-under_way' t k a ms w l o c e } }))
