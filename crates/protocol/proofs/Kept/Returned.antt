-- The permission is free again: the message that carried it is taken off, the holder is cleared, and the grant number is that of the
-- permission. What is left to do is to grant the head, if any.
use Prim.Native.Nat.{ℕ, ◌+◌}
use mathlib.Core.Path.{◌≡◌, refl, ◌∙◌}
use mathlib.Core.Logic.{◌≢◌}
use mathlib.Core.Bool.{true}
use mathlib.Core.List.{List}
use native.Mathlib.Omega.{arith}
use lib.Dec.{eqb}
use borrow.Author.Tests.{eqb-true, eqb-false}
use Rattle.basics.specs.Helpers.{all, tally, All}
use Rattle.protocol.specs.Ask.{Ask, no_ask}
use Rattle.protocol.specs.Message.{Message}
use Rattle.protocol.specs.Setting.{Setting, SettingLaw}
use Rattle.protocol.specs.Local.{WAITING, Local, with_arbiter}
use Rattle.protocol.specs.Rig.{requests}
use Rattle.basics.proofs.Basics.{by_bool, clash}
use Rattle.basics.proofs.Lists.{all-map-not}
use Rattle.protocol.proofs.Invariant.{FREE, HELD, ghost, carries_permission, is_request_of, Ordered, situation, Fits, ArbiterRow, Asks, Column, Core}
use Rattle.protocol.proofs.Fitting.{fits-change}

module _ (p : Setting) (law : SettingLaw p) where
  -- k had the permission; g' and q' are the new grant number and queue
  pub returned-core : (t : Local) (k d stage : ℕ) (known : ℕ → ℕ) (ms : List Message) (g' : ℕ) (q' : ℕ → Ask) → stage ≢ FREE → stage ≢ HELD → g' ≡ t.grant + d
      → ((i : ℕ) → i ≢ k → q' i ≡ t.queued i) → (known k ≢ 0 → q' k ≡ t.ask k) → (known k ≡ 0 → q' k ≡ no_ask)
      → ArbiterRow p t.grant t.holder t.holder_ask t.queued k d stage → Asks p t.holder_ask t.queued t.mode t.ask t.failed k d stage known → Column p t.grant t.queued t.mode t.held t.heir t.inquired k d stage
      → tally carries_permission ms ≡ 0 → ((i : ℕ) → t.mode i ≡ WAITING → p.member i ≡ true → tally (is_request_of i) ms + known i ≡ 1) → All (Fits p (situation t k d stage)) ms → Ordered ms
      → Core p (with_arbiter t g' 0 no_ask q') (ghost 0 0 FREE known) ms
  returned-core t k d stage known ms g' q' s0 s2 gd qo qy qn a b c permissions requests all ordered =
      let k1 = law.site_in_range k (a.when_taken s0).0 in
      let known-none : known 0 ≡ 0 = by_bool (eqb (known 0) 0) (λ e. eqb-true (known 0) 0 e) (λ e. let y = law.site_in_range 0 (b.known_waits 0 (eqb-false (known 0) 0 e)).1 in absurd (omega arith)) in
      let one = a.ahead_by_one in
      record {
        arbiter = record {
          ahead_by_one = omega arith;
          owner_is_holder = λ z. refl;
          handed_over = λ z. absurd (z refl);
          when_free = λ z. (refl, refl, refl);
          when_taken = λ z. absurd (z refl);
          stage_range = omega arith;
          holder_not_queued = qo 0 (λ z. omega arith) ∙ b.empty_if_unknown 0 (λ z. omega arith) known-none;
        };
        asks = record {
          queued_if_known = λ i ne h. by_bool (eqb i k) (λ e. let ik = eqb-true i k e in rw ik (qy (rw ik at h))) (λ e. let x = eqb-false i k e in qo i x ∙ b.queued_if_known i x h);
          empty_if_unknown = λ i ne h. by_bool (eqb i k) (λ e. let ik = eqb-true i k e in rw ik (qn (rw ik at h))) (λ e. let x = eqb-false i k e in qo i x ∙ b.empty_if_unknown i x h);
          owner_entry = λ h. absurd (h known-none);
          out_known = λ z. absurd (omega arith);
          held_inside = λ z. absurd (omega arith);
          yielded_failed = λ z. absurd (omega arith);
          released_left = λ z. absurd (omega arith);
          known_waits = b.known_waits;
          inside_holds = λ i m e. absurd (s2 (b.inside_holds i m e).1);
          waiting_numbered = b.waiting_numbered;
          not_waiting_clear = b.not_waiting_clear;
        };
        column = record {
          holds = λ i x. absurd (s2 (c.holds i x).1);
          number = λ z. absurd (omega arith);
          heirs = λ i x. absurd (s2 (c.heirs i x).1);
          remembered = λ i x. let y = c.remembered i x in (y.0, y.1, omega arith);
        };
        under_way = record {
          permissions = permissions;
          requests = requests;
          hand_overs = λ z. absurd (z refl);
          fit = all-map-not _ _ carries_permission ms permissions (λ m e x. fits-change p _ _ m (λ i r. (refl, refl)) (λ u. clash (carries_permission m) u e) (omega arith) (λ i y u v. let w = v.2 in absurd (omega arith)) (λ i y u v. absurd (v refl)) x) all;
          ordered = ordered;
        };
      }
