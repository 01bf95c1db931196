-- A release without heir arrives. It is the permission (T4), so it is the holder's with the grant number, or, where the arbiter is one
-- hand-over behind, early: the next number, of the owner, which is still queued. It is never stray, and the permission is free again.
use Prim.Native.Nat.{ℕ, suc}
use mathlib.Core.Path.{◌≡◌, refl, sym, ap, ◌∙◌}
use mathlib.Core.Logic.{◌≢◌}
use mathlib.Core.Bool.{true, false, not}
use mathlib.Core.List.{List, ◌∷◌}
use native.Mathlib.Omega.{arith}
use lib.Dec.{eqb}
use borrow.Author.Tests.{eqb-true, eqb-false, eq-eqb, ne_eqb}
use Rattle.basics.specs.Helpers.{update, tally, All}
use Rattle.protocol.specs.Ask.{no_ask, is_no_ask}
use Rattle.protocol.specs.Message.{Message, release}
use Rattle.protocol.specs.Setting.{Setting, SettingLaw}
use Rattle.protocol.specs.Local.{Local, view}
use Rattle.protocol.specs.Arbiter.{from_holder, is_early, early_release, on_release}
use Rattle.basics.proofs.Basics.{by_bool, and_split, and-true, not-of}
use Rattle.protocol.proofs.Invariant.{RELEASED, ghost, Ordered, Ascending, InquiryFits, Fits, OwedIn, Core, Invariant}
use Rattle.protocol.proofs.Fitting.{fix}
use Rattle.protocol.proofs.Owing.{fix-owed}
use Rattle.protocol.proofs.Head.{head-remove}
use Rattle.protocol.proofs.Kept.Granted.{granted_head-kept}
use Rattle.protocol.proofs.Kept.Returned.{returned-core}

module _ (p : Setting) (law : SettingLaw p) where
  -- the rule, with the ghosts put to the message's names
  release-fixed : (t : Local) (k d : ℕ) (known : ℕ → ℕ) (n : ℕ) (ms : List Message) → Core p t (ghost k d RELEASED known) (release k n ∷ ms) → ((i : ℕ) → InquiryFits t i)
      → OwedIn p t (ghost k d RELEASED known) (release k n ∷ ms) → Invariant p (on_release p (view t ms) k n)
  unfolding on_release early_release All Fits Ordered tally update Ascending
  release-fixed t k d known n ms c inquiries_fit l =
      let ik : (i : ℕ) → known i ≢ 0 → i ≢ k = λ i x z. x (ap known z ∙ (c.asks.released_left refl).0) in
      let ok = c.under_way.fit.0 in
      let tk = c.under_way.permissions in
      let one = c.arbiter.ahead_by_one in
      let kk = (c.asks.released_left refl).0 in
      by_bool (eqb d 0)
      (λ e. let d0 = eqb-true d 0 e in
      let kh : k ≡ t.holder = c.arbiter.owner_is_holder d0 in
      let now : from_holder t k n ≡ true = and-true (eqb n t.grant) (eqb k t.holder) (eq-eqb n t.grant (omega arith)) (eq-eqb k t.holder kh) in
      rw now
      (granted_head-kept p law _ known ms (returned-core p law t k d RELEASED known ms t.grant t.queued (λ z. omega arith) (λ z. omega arith) (omega arith) (λ i ne. refl) (λ z. absurd (z kk)) (λ z. rw kh c.arbiter.holder_not_queued)
      c.arbiter c.asks c.column (omega arith) c.under_way.requests c.under_way.fit.1 c.under_way.ordered.1) inquiries_fit
      (record { fail_owed = λ i x f z. (l.fail_owed i x (ik i x) f z).0; ascending = λ i. (l.ascending i).1 })))
      (λ e. let d0 = eqb-false d 0 e in
      let ov = c.arbiter.handed_over d0 in
      let not-now : from_holder t k n ≡ false = by_bool (from_holder t k n) (λ u. let z = eqb-true n t.grant (and_split (eqb n t.grant) (eqb k t.holder) u).0 in absurd (omega arith)) (λ u. u) in
      let early : is_early t k n ≡ true = and-true (eqb n (suc t.grant)) (not (is_no_ask (t.queued k))) (eq-eqb n (suc t.grant) (omega arith)) (not-of (is_no_ask (t.queued k)) (ne_eqb (t.queued k).number 0 (λ z. omega arith))) in
      rw (not-now, early)
      (granted_head-kept p law _ known ms (returned-core p law t k d RELEASED known ms (suc t.grant) (update t.queued k no_ask) (λ z. omega arith) (λ z. omega arith) (omega arith) (λ i ne. rw (ne_eqb i k ne)) (λ z. absurd (z kk)) (λ z. rw (eq-eqb k k refl))
      c.arbiter c.asks c.column (omega arith) c.under_way.requests c.under_way.fit.1 c.under_way.ordered.1) inquiries_fit
      (record { fail_owed = λ i x f z. head-remove p law t.queued i k (l.fail_owed i x (ik i x) f z).0 (λ y. let w = law.site_in_range i (c.asks.known_waits i x).1 in omega arith) (ik i x); ascending = λ i. (l.ascending i).1 })))

  -- the rule
  pub on_release-kept : (t : Local) (k n : ℕ) (ms : List Message) → Invariant p (view t (release k n ∷ ms)) → Invariant p (on_release p (view t ms) k n)
  unfolding All Fits
  on_release-kept t k n ms (o, s) =
      let ok = s.core.under_way.fit.0 in
      release-fixed t k o.ahead o.known n ms (fix p t o (release k n ∷ ms) k o.ahead RELEASED ok.0 refl (sym ok.2) s.core) s.inquiries_fit (fix-owed p o.owner o.ahead o.stage k o.ahead RELEASED ok.0 refl (sym ok.2) s.owed)
