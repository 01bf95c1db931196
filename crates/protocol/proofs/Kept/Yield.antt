-- A yield arrives. It is the permission (T3): the holder's, with the grant number. The holder, which waits and is failed, goes back on
-- the queue with its current ask. A site that has not been failed stays the head (L1), also before the yielder.
use Prim.Native.Nat.{ℕ}
use mathlib.Core.Path.{◌≡◌, refl, sym}
use mathlib.Core.Logic.{◌≢◌}
use mathlib.Core.Bool.{true}
use mathlib.Core.List.{List, ◌∷◌}
use native.Mathlib.Omega.{arith}
use lib.Dec.{eqb}
use borrow.Author.Tests.{eqb-true, eqb-false, eq-eqb, ne_eqb}
use Rattle.basics.specs.Helpers.{update, tally, All}
use Rattle.protocol.specs.Message.{Message, yield}
use Rattle.protocol.specs.Setting.{Setting, SettingLaw}
use Rattle.protocol.specs.Local.{Local, view}
use Rattle.protocol.specs.Arbiter.{from_holder, head_of, on_yield}
use Rattle.basics.proofs.Basics.{by_bool, clash, and-true}
use Rattle.protocol.proofs.Invariant.{YIELDED, ghost, Ordered, Ascending, InquiryFits, Fits, OwedIn, Core, Invariant}
use Rattle.protocol.proofs.Fitting.{fix}
use Rattle.protocol.proofs.Owing.{fix-owed}
use Rattle.protocol.proofs.Head.{head-of, head-is}
use Rattle.protocol.proofs.Kept.Granted.{granted_head-kept}
use Rattle.protocol.proofs.Kept.Returned.{returned-core}

module _ (p : Setting) (law : SettingLaw p) where
  -- the rule, with the ghosts put to the message's names
  yield-fixed : (t : Local) (k : ℕ) (known : ℕ → ℕ) (n : ℕ) (ms : List Message) → Core p t (ghost k 0 YIELDED known) (yield k n ∷ ms) → ((i : ℕ) → InquiryFits t i)
      → OwedIn p t (ghost k 0 YIELDED known) (yield k n ∷ ms) → Invariant p (on_yield p (view t ms) k n)
  unfolding on_yield All Fits Ordered tally update Ascending
  yield-fixed t k known n ms c inquiries_fit l =
      let ok = c.under_way.fit.0 in
      let tk = c.under_way.permissions in
      let kk = (c.asks.yielded_failed refl).0 in
      let kh : k ≡ t.holder = c.arbiter.owner_is_holder refl in
      let now : from_holder t k n ≡ true = and-true (eqb n t.grant) (eqb k t.holder) (eq-eqb n t.grant (omega arith)) (eq-eqb k t.holder kh) in
      rw now
      (granted_head-kept p law _ known ms (returned-core p law t k 0 YIELDED known ms t.grant (update t.queued k t.holder_ask) (λ z. omega arith) (λ z. omega arith) (omega arith) (λ i ne. rw (ne_eqb i k ne)) (λ z. rw (eq-eqb k k refl) ((c.asks.owner_entry kk).0 refl)) (λ z. absurd (kk z))
      c.arbiter c.asks c.column (omega arith) c.under_way.requests c.under_way.fit.1 c.under_way.ordered.1) inquiries_fit
      (record {
        ascending = λ i. (l.ascending i).1;
        fail_owed = λ i x f z. by_bool (eqb i k)
            (λ e. clash (t.failed i) (rw (eqb-true i k e) (c.asks.yielded_failed refl).1) f)
            (λ e. let ne = eqb-false i k e in let w = l.fail_owed i x ne f z in
            let r = head-of p law t.queued p.size in
            let i1 = law.site_in_range i (c.asks.known_waits i x).1 in
            let hz : head_of p t.queued ≢ 0 = λ y. let v = w.0 in omega arith in
            let a = rw w.0 at (r.comes_first hz) in
            head-is p law (update t.queued k t.holder_ask) i i1.0 i1.1 (rw e (rw w.0 at (r.found hz).2))
            (λ m lo hi. by_bool (eqb m k) (λ b. rw (b, e) (λ q0 nm. rw (eqb-true m k b, kh) w.1)) (λ b. rw (b, e) (a m lo hi))));
      }))

  -- the rule
  pub on_yield-kept : (t : Local) (k n : ℕ) (ms : List Message) → Invariant p (view t (yield k n ∷ ms)) → Invariant p (on_yield p (view t ms) k n)
  unfolding All Fits
  on_yield-kept t k n ms (o, s) =
      let ok = s.core.under_way.fit.0 in
      yield-fixed t k o.known n ms (fix p t o (yield k n ∷ ms) k 0 YIELDED ok.0 (sym (s.core.asks.yielded_failed ok.2).2) (sym ok.2) s.core) s.inquiries_fit (fix-owed p o.owner o.ahead o.stage k 0 YIELDED ok.0 (sym (s.core.asks.yielded_failed ok.2).2) (sym ok.2) s.owed)
