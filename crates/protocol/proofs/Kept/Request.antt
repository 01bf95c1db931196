-- A request arrives. Its site is not known, and no return of it is under way, since none stands behind its request (R2): so it is neither
-- owner nor holder, and is not queued. With the permission free it is granted at once. Else it is queued; if it becomes the head, the
-- former head is told where L1 asks for it, and the holder is inquired where L2 asks for it; if not, it is told itself.
use Prim.Native.Nat.{ℕ, ◌≤◌}
use mathlib.Core.Path.{◌≡◌, refl, sym, ◌∙◌}
use mathlib.Core.Logic.{◌≢◌}
use mathlib.Core.Bool.{true, false, not, ◌&&◌, cond}
use mathlib.Core.List.{List, [], ◌∷◌, ◌++◌}
use native.Mathlib.Omega.{arith}
use lib.Dec.{eqb}
use borrow.Author.Tests.{eqb-true, eqb-false, eq-eqb, ne_eqb}
use Rattle.basics.specs.Helpers.{update, tally, All}
use Rattle.protocol.specs.Ask.{Ask, no_ask}
use Rattle.protocol.specs.Message.{Message, request, inquire, fail, transfer}
use Rattle.protocol.specs.Setting.{Setting, SettingLaw}
use Rattle.protocol.specs.Local.{WAITING, Local, view, send, with_arbiter}
use Rattle.protocol.specs.Arbiter.{head_of, before_holder, granted, fail_to, former_told, fail_former, inquire_or_fail, answers, queued_up, on_request}
use Rattle.basics.proofs.Basics.{by_bool, clash, and-true, not-of, update_same, update_other, update-update}
use Rattle.basics.proofs.Lists.{all_map, snoc-pos, snoc-keep, snoc-zero, snoc-none, tally-mono}
use Rattle.protocol.proofs.Asks.{same_number, answers-own}
use Rattle.protocol.proofs.Invariant.{Ghost, FREE, OUT, HELD, YIELDED, RELEASED, ghost, carries_permission, is_request_of, is_return_of, is_hand_over, is_fail_for, is_inquire, Ordered, Ascending, situation, InquiryFits, Fits, Owed, OwedIn, UnderWayIn, Core, Invariant}
use Rattle.protocol.proofs.Sending.{send-fail, send-inquire, send-transfer}
use Rattle.protocol.proofs.Fitting.{hand_over-returns, fix, permission-returns, fits-change}
use Rattle.protocol.proofs.Owing.{ascending-other, ascending-inquire, inquired-low}
use Rattle.protocol.proofs.Head.{head-of, head-is, head-insert}
use Rattle.protocol.proofs.Kept.Granted.{OwedWhenFree, queued-member, granted-kept}

module _ (p : Setting) (law : SettingLaw p) where
  module _ (t : Local) (o : Ghost) (k : ℕ) (new : Ask) (ms : List Message) (c : Core p t o (request k new ∷ ms)) where
    -- k is not known, has no other request and no return under way
    new-request : (o.known k ≡ 0) × (tally (is_request_of k) ms ≡ 0) × (tally (is_return_of k) ms ≡ 0) × (1 ≤ k) × (1 ≤ new.number)
    unfolding All Fits Ordered tally
    new-request =
        let ok = c.under_way.fit.0 in
        let r = rw (eq-eqb k k refl) at (c.under_way.requests k ok.0 ok.2) in
        let w = c.asks.waiting_numbered k ok.0 in
        let n = same_number ok.1 in
        (omega arith, omega arith, c.under_way.ordered.0 k (eq-eqb k k refl), (law.site_in_range k ok.2).0, omega arith)

    -- k is not the owner
    not_own : k ≢ o.owner
    unfolding All Fits Ordered tally
    not_own z =
        let ok = c.under_way.fit.0 in
        let f = new-request in
        let ko : o.known o.owner ≡ 0 = rw (← z) f.0 in
        let mo : t.mode o.owner ≡ WAITING = rw (← z) ok.0 in
        let le = c.arbiter.stage_range in
        by_bool (eqb o.stage FREE) (λ e. let y = (c.arbiter.when_free (eqb-true o.stage FREE e)).0 in omega arith)
        (λ e0. by_bool (eqb o.stage OUT) (λ e. c.asks.out_known (eqb-true o.stage OUT e) ko)
        (λ e1. by_bool (eqb o.stage HELD) (λ e. let y = c.asks.held_inside (eqb-true o.stage HELD e) ko in omega arith)
        (λ e2. by_bool (eqb o.stage YIELDED) (λ e. (c.asks.yielded_failed (eqb-true o.stage YIELDED e)).0 ko)
        (λ e3. let a0 = eqb-false o.stage FREE e0 in let a1 = eqb-false o.stage OUT e1 in let a2 = eqb-false o.stage HELD e2 in let a3 = eqb-false o.stage YIELDED e3 in
        let s4 : o.stage ≡ RELEASED = omega arith in
        let tk : tally carries_permission ms ≡ 1 = rw s4 at c.under_way.permissions in
        let le = tally-mono _ carries_permission (is_return_of o.owner) ms c.under_way.fit.1 (λ m a e. permission-returns p (situation t o.owner o.ahead o.stage) m a s4 e) in
        let bk : tally (is_return_of o.owner) ms ≡ 0 = rw (← z) f.2 in
        omega arith))))

    -- k is not the holder
    not-holder : k ≢ t.holder
    unfolding All tally
    not-holder z =
        let f = new-request in
        by_bool (eqb o.ahead 0)
        (λ e. not_own (z ∙ sym (c.arbiter.owner_is_holder (eqb-true o.ahead 0 e))))
        (λ e. let h = c.under_way.hand_overs (eqb-false o.ahead 0 e) in
        let le = tally-mono _ (is_hand_over t.holder o.owner t.grant) (is_return_of t.holder) ms c.under_way.fit.1 (λ m a y. hand_over-returns t.holder o.owner t.grant m y) in
        let bk : tally (is_return_of t.holder) ms ≡ 0 = rw (← z) f.2 in
        omega arith)

    -- k is queued
    queued-core : Core p (with_arbiter t t.grant t.holder t.holder_ask (update t.queued k new)) (ghost o.owner o.ahead o.stage (update o.known k 1)) ms
    unfolding update All Fits Ordered tally
    queued-core =
        let ok = c.under_way.fit.0 in
        let f = new-request in
        let n0 : new.number ≢ 0 = λ z. omega arith in
        let ow = ne_eqb o.owner k (λ z. not_own (sym z)) in
        let ho = ne_eqb t.holder k (λ z. not-holder (sym z)) in
        record {
          arbiter = record { ahead_by_one = c.arbiter.ahead_by_one; owner_is_holder = c.arbiter.owner_is_holder; handed_over = rw ow c.arbiter.handed_over; when_free = c.arbiter.when_free; when_taken = c.arbiter.when_taken; stage_range = c.arbiter.stage_range; holder_not_queued = rw ho c.arbiter.holder_not_queued };
          asks = record {
            queued_if_known = λ i ne. by_bool (eqb i k) (λ e. rw e (λ h. rw (eqb-true i k e) (sym ok.1))) (λ e. rw e (c.asks.queued_if_known i ne));
            empty_if_unknown = λ i ne. by_bool (eqb i k) (λ e. rw e (λ h. absurd (omega arith))) (λ e. rw e (c.asks.empty_if_unknown i ne));
            owner_entry = rw ow c.asks.owner_entry;
            out_known = rw ow c.asks.out_known;
            held_inside = rw ow c.asks.held_inside;
            yielded_failed = rw ow c.asks.yielded_failed;
            released_left = rw ow c.asks.released_left;
            known_waits = λ i. by_bool (eqb i k) (λ e. rw e (λ h. rw (eqb-true i k e) (ok.0, ok.2, refl))) (λ e. rw e (c.asks.known_waits i));
            inside_holds = c.asks.inside_holds;
            waiting_numbered = c.asks.waiting_numbered;
            not_waiting_clear = c.asks.not_waiting_clear;
          };
          column = record {
            holds = c.column.holds;
            number = c.column.number;
            remembered = c.column.remembered;
            heirs = λ i h. let y = c.column.heirs i h in (y.0, y.1, y.2, by_bool (eqb (t.heir i) k) (λ e. rw e n0) (λ e. rw e y.3));
          };
          under_way = record {
            permissions = c.under_way.permissions;
            requests = λ i. by_bool (eqb i k) (λ e. rw e (λ x y. rw (eqb-true i k e) (omega arith))) (λ e. rw e (λ x y. rw e at (c.under_way.requests i x y)));
            hand_overs = c.under_way.hand_overs;
            fit = all_map _ _ ms (λ m a. fits-change p _ _ m (λ i r. (refl, refl)) (λ u. (refl, refl, refl)) (omega arith) (λ i x u v. v) (λ i x u v g. ((g v).0, by_bool (eqb x k) (λ e. rw e n0) (λ e. rw e (g v).1))) a) c.under_way.fit.1;
            ordered = c.under_way.ordered.1;
          };
        }

  -- a fail to a known site that is queued is for its ask
  fail-for : (t : Local) (o : Ghost) (i k : ℕ) (ms : List Message) → Core p t o ms → o.known i ≢ 0 → i ≢ o.owner → i ≡ k → is_fail_for i (t.ask i) (fail_to t k) ≡ true
  fail-for t o i k ms c a ne e =
      let q : (t.queued k).number ≡ (t.ask i).number = rw (← e) (same_number (c.asks.queued_if_known i ne a)) in
      rw (eq-eqb i k e) (answers-own (t.ask i) _ q)

  -- with a holder: only messages that carry nothing go out. All but k were told or will be, or the former head is told now.
  answers-kept : (t : Local) (o : Ghost) (k old : ℕ) (ms : List Message) → Core p t o ms → ((i : ℕ) → InquiryFits t i) → o.stage ≢ FREE → (t.queued k).number ≢ 0 → (old ≢ 0 → (t.queued old).number ≢ 0)
      → head_of p t.queued ≡ k → ((i : ℕ) → o.known i ≢ 0 → i ≢ o.owner → i ≢ k → t.failed i ≡ false → tally (is_fail_for i (t.ask i)) ms ≡ 0 → (old ≡ i) × (before_holder p t i ≡ true)) → ((i : ℕ) → Ascending i (t.inquired i) ms)
      → Invariant p (answers p (view t ms) k old)
  unfolding answers fail_former inquire_or_fail
  answers-kept t o k old ms c inquiries_fit s0 qk qo hk ow ascending =
      let busy = c.arbiter.when_taken s0 in
      let mk = queued-member p law t o ms c k qk in
      let ek = eq-eqb (head_of p t.queued) k hk in
      by_bool (former_told p t k old)
      (λ e. rw (ek, e) (rest _ mk busy (send-fail p ms old _ (queued-member p law t o ms c old (qo (λ z. let y : eqb old 0 ≡ true = eq-eqb old 0 z in clash true refl (sym (rw y at e))))) c.under_way)
      (λ i a ne nk f z. let e1 = sym (ow i a ne nk f (snoc-zero (is_fail_for i (t.ask i)) ms (fail_to t old) z)).0 in snoc-none (is_fail_for i (t.ask i)) ms (fail_to t old) (fail-for t o i old ms c a ne e1) z)
      (λ i. ascending-other i (t.inquired i) ms (fail_to t old) refl (ascending i))))
      (λ e. rw (ek, e) (rest _ mk busy c.under_way
      (λ i a ne nk f z. let w = ow i a ne nk f z in let i1 = law.site_in_range i (c.asks.known_waits i a).1 in let oi = w.0 in
      clash (former_told p t k old)
      (rw oi (and-true (not (eqb i 0)) (not (eqb i k) && before_holder p t i) (not-of (eqb i 0) (ne_eqb i 0 (λ y. omega arith))) (and-true (not (eqb i k)) (before_holder p t i) (not-of (eqb i k) (ne_eqb i k nk)) w.1))) e)
      ascending))
    where
      rest : (ms' : List Message) → p.member k ≡ true → (p.member o.owner ≡ true) × (p.member t.holder ≡ true) × (1 ≤ t.holder_ask.number) × (1 ≤ t.grant) → UnderWayIn p t o ms'
          → ((i : ℕ) → o.known i ≢ 0 → i ≢ o.owner → i ≢ k → t.failed i ≡ false → tally (is_fail_for i (t.ask i)) ms' ≡ 0 → ⊥) → ((i : ℕ) → Ascending i (t.inquired i) ms')
          → Invariant p (cond (before_holder p t k) (send (send (view t ms') (transfer t.holder k t.grant)) (inquire t.holder t.grant)) (send (send (view t ms') (transfer t.holder k t.grant)) (fail_to t k)))
      rest ms' mk busy m none-owed asc' =
          let m1 = send-transfer p ms' t.holder k t.grant busy.3 (omega arith) refl qk busy.1 mk m in
          let tr = transfer t.holder k t.grant in
          let ms1 = ms' ++ tr ∷ [] in
          let a1 : (i : ℕ) → Ascending i (t.inquired i) ms1 = λ i. ascending-other i (t.inquired i) ms' tr refl (asc' i) in
          by_bool (before_holder p t k)
          (λ e. rw e (
            o,
            record {
              inquiries_fit = inquiries_fit;
              free_queue_empty = λ z. absurd (s0 z);
              owed = record {
                fail_owed = λ i a ne f z. by_bool (eqb i k)
                    (λ y. rw (eqb-true i k y) (hk, e))
                    (λ y. absurd (none-owed i a ne (eqb-false i k y) f (snoc-zero (is_fail_for i (t.ask i)) ms' tr (snoc-zero (is_fail_for i (t.ask i)) ms1 (inquire t.holder t.grant) z))));
                inquire_owed = λ a b d y hd z u. snoc-pos (is_inquire o.owner t.grant) ms1 (inquire t.holder t.grant) (rw (eq-eqb o.owner t.holder (c.arbiter.owner_is_holder a), eq-eqb t.grant t.grant refl));
                ascending = ascending-inquire p t.inquired t.holder ms1 m1 (inquired-low p c.column) a1;
              };
              core = record { arbiter = c.arbiter; asks = c.asks; column = c.column; under_way = send-inquire p _ t.holder t.grant busy.3 (omega arith) busy.1 m1 };
            },
          ))
          (λ e. rw e (
            o,
            record {
              inquiries_fit = inquiries_fit;
              free_queue_empty = λ z. absurd (s0 z);
              owed = record {
                fail_owed = λ i a ne f z. by_bool (eqb i k)
                    (λ y. snoc-none (is_fail_for i (t.ask i)) ms1 (fail_to t k) (fail-for t o i k ms c a ne (eqb-true i k y)) z)
                    (λ y. absurd (none-owed i a ne (eqb-false i k y) f (snoc-zero (is_fail_for i (t.ask i)) ms' tr (snoc-zero (is_fail_for i (t.ask i)) ms1 (fail_to t k) z))));
                inquire_owed = λ a b d y hd z. clash (before_holder p t k) (rw hk at z) e;
                ascending = λ i. ascending-other i (t.inquired i) ms1 (fail_to t k) refl (a1 i);
              };
              core = record { arbiter = c.arbiter; asks = c.asks; column = c.column; under_way = send-fail p _ k _ mk m1 };
            },
          ))

  -- who was queued is queued
  still-queued : (t : Local) (k : ℕ) (new : Ask) (i : ℕ) → 1 ≤ new.number → (t.queued i).number ≢ 0 → (update t.queued k new i).number ≢ 0
  unfolding update
  still-queued t k new i l y = by_bool (eqb i k) (λ e. rw e (λ z. omega arith)) (λ e. rw e y)

  -- without a holder the arbiter grants at once
  granted-at-once : (t : Local) (o : Ghost) (k : ℕ) (new : Ask) (ms : List Message) → Core p t o (request k new ∷ ms) → Core p (with_arbiter t t.grant t.holder t.holder_ask (update t.queued k new)) (ghost o.owner o.ahead o.stage (update o.known k 1)) ms
      → ((i : ℕ) → InquiryFits t i) → (o.stage ≡ FREE → (i : ℕ) → (t.queued i).number ≡ 0) → ((i : ℕ) → Ascending i (t.inquired i) ms) → t.holder ≡ 0 → Invariant p (granted p (view t ms) k new)
  unfolding granted All Fits update
  granted-at-once t o k new ms c v inquiries_fit free_queue_empty ascending h0 =
      let ok = c.under_way.fit.0 in
      let s0 : o.stage ≡ FREE = by_bool (eqb o.stage FREE) (λ e. eqb-true o.stage FREE e) (λ e. let y = law.site_in_range t.holder (c.arbiter.when_taken (eqb-false o.stage FREE e)).1 in absurd (omega arith)) in
      let fr = c.arbiter.when_free s0 in
      let n1 : 1 ≤ new.number = let w = c.asks.waiting_numbered k ok.0 in let y = same_number ok.1 in omega arith in
      let k1 = law.site_in_range k ok.2 in
      let v1 = fix p _ _ ms 0 0 FREE (sym fr.0) (sym fr.1) (sym s0) v in
      let hk : head_of p (update t.queued k new) ≡ k = head-is p law (update t.queued k new) k k1.0 k1.1 (rw (eq-eqb k k refl) (λ z. omega arith))
      (λ i lo hi q0 ne. absurd (q0 (rw (ne_eqb i k ne) (free_queue_empty s0 i)))) in
      let hm : OwedWhenFree p (update t.queued k new) t.ask t.failed t.inquired (update o.known k 1) ms = record {
        ascending = ascending;
        fail_owed = λ i. by_bool (eqb i k)
            (λ e. rw e (λ x f z. hk ∙ sym (eqb-true i k e)))
            (λ e. rw e (λ x f z. let i1 = law.site_in_range i (c.asks.known_waits i x).1 in let y = same_number (c.asks.queued_if_known i (λ u. let w = fr.0 in omega arith) x) in let w = c.asks.waiting_numbered i (c.asks.known_waits i x).0 in let q0 = free_queue_empty s0 i in absurd (omega arith)));
      } in
      let r = granted-kept p law (with_arbiter t t.grant t.holder t.holder_ask (update t.queued k new)) (update o.known k 1) k new ms v1 inquiries_fit (rw (eq-eqb k k refl) (λ z. omega arith)) (rw (eq-eqb k k refl)) (sym ok.1) hk hm in
      rw (update-update t.queued k new no_ask) at r

  -- k is not the head: it is told
  failed-owed : (t : Local) (o : Ghost) (k : ℕ) (new : Ask) (n : ℕ) (ms : List Message) → n ≡ new.number → Core p t o (request k new ∷ ms) → OwedIn p t o (request k new ∷ ms) → head_of p (update t.queued k new) ≢ k
      → Owed p t.grant t.holder t.holder_ask (update t.queued k new) t.ask t.failed t.inquired o.owner o.ahead o.stage (update o.known k 1) (ms ++ fail k n ∷ [])
  unfolding All Fits tally Ascending
  failed-owed t o k new n ms en c l ne =
      let ok = c.under_way.fit.0 in
      let f = new-request t o k new ms c in
      let no = not_own t o k new ms c in
      let k1 = law.site_in_range k ok.2 in
      let same = head-insert p law t.queued k new (same_number (c.asks.empty_if_unknown k no f.0)) (λ z. omega arith) k1.0 k1.1 ne in
      let ko : update o.known k 1 o.owner ≡ o.known o.owner = update_other o.known k 1 o.owner (λ z. no (sym z)) in
      record {
        fail_owed = λ i a ni fi z. by_bool (eqb i k)
            (λ e. let q : n ≡ (t.ask i).number = rw (eqb-true i k e, en) (sym (same_number ok.1)) in snoc-none (is_fail_for i (t.ask i)) ms (fail k n) (rw e (answers-own (t.ask i) n q)) z)
            (λ e. let nk = eqb-false i k e in
            let w = l.fail_owed i (rw (update_other o.known k 1 i nk) at a) ni fi (snoc-zero (is_fail_for i (t.ask i)) ms (fail k n) z) in
            (sym same ∙ w.0, rw (update_other t.queued k new i nk) w.1));
        inquire_owed = λ u v x d hd b g1. snoc-keep (is_inquire o.owner t.grant) ms (fail k n) (l.inquire_owed u v x (rw ko at d) (λ z. hd (sym same ∙ z))
            (rw same (rw (update_other t.queued k new (head_of p (update t.queued k new)) ne) at b)) g1);
        ascending = λ i. ascending-other i (t.inquired i) ms (fail k n) refl (l.ascending i).1;
      }

  -- the rule
  pub on_request-kept : (t : Local) (k : ℕ) (new : Ask) (ms : List Message) → Invariant p (view t (request k new ∷ ms)) → Invariant p (on_request p (view t ms) k new)
  unfolding on_request queued_up answers Ascending tally
  on_request-kept t k new ms (o, s) =
      let c = s.core in
      let v = queued-core t o k new ms c in
      let f = new-request t o k new ms c in
      let q1 = update t.queued k new in
      let qk : (q1 k).number ≡ new.number = same_number (update_same t.queued k new) in
      let ascending : (i : ℕ) → Ascending i (t.inquired i) ms = λ i. (s.owed.ascending i).1 in
      by_bool (eqb t.holder 0)
      (λ e. rw e (granted-at-once t o k new ms c v s.inquiries_fit s.free_queue_empty ascending (eqb-true t.holder 0 e)))
      (λ e. let h0 = eqb-false t.holder 0 e in
      let s0 : o.stage ≢ FREE = λ z. let y = c.arbiter.when_free z in let w = c.arbiter.owner_is_holder y.1 in omega arith in
      by_bool (eqb (head_of p q1) k)
      (λ g. rw e (answers-kept _ (ghost o.owner o.ahead o.stage (update o.known k 1)) k (head_of p t.queued) ms v s.inquiries_fit s0 (λ z. omega arith)
      (λ z. still-queued t k new (head_of p t.queued) f.4 ((head-of p law t.queued p.size).found z).2)
      (eqb-true (head_of p q1) k g)
      (λ i a ne nk fi z. let w = s.owed.fail_owed i (rw (update_other o.known k 1 i nk) at a) ne fi z in (w.0, rw (before_holder, update_other t.queued k new i nk) w.1))
      ascending))
      (λ g. rw (e, g) (
        ghost o.owner o.ahead o.stage (update o.known k 1),
        record {
          inquiries_fit = s.inquiries_fit;
          free_queue_empty = λ z. absurd (s0 z);
          owed = failed-owed t o k new _ ms qk c s.owed (eqb-false (head_of p q1) k g);
          core = record {
            arbiter = v.arbiter;
            asks = v.asks;
            column = v.column;
            under_way = send-fail p ms k _ (queued-member p law _ _ _ v k (λ z. omega arith)) v.under_way;
          };
        },
      )))
