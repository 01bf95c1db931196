-- A transfer arrives at a site. If the site holds the transfer's number, that number is at most the grant number (T6), so the site is the
-- owner, the arbiter is not behind and the number is the grant number: then the named heir is queued (T6), as T7 asks.
-- Else nothing changes.
use Prim.Native.Nat.{ℕ, ◌+◌, ◌≤◌}
use mathlib.Core.Path.{◌≡◌, refl, ◌∙◌}
use mathlib.Core.List.{List, ◌∷◌}
use native.Mathlib.Omega.{arith}
use lib.Dec.{eqb}
use borrow.Author.Tests.{eqb-true}
use Rattle.basics.specs.Helpers.{update, tally, All}
use Rattle.protocol.specs.Message.{Message, transfer}
use Rattle.protocol.specs.Setting.{Setting, SettingLaw}
use Rattle.protocol.specs.Local.{Local, view}
use Rattle.protocol.specs.Site.{names_held, on_transfer}
use Rattle.basics.proofs.Basics.{by_bool}
use Rattle.protocol.proofs.Invariant.{Ordered, Ascending, Fits, OwedIn, UnderWayIn, Invariant}
use Rattle.protocol.proofs.Sending.{take-quiet}

module _ (p : Setting) (law : SettingLaw p) where
  -- the rule
  pub on_transfer-kept : (t : Local) (b x n : ℕ) (ms : List Message) → Invariant p (view t (transfer b x n ∷ ms)) → Invariant p (on_transfer (view t ms) b x n)
  unfolding on_transfer Fits All Ordered tally update Ascending
  on_transfer-kept t b x n ms (o, s) =
      let v = s.core in
      let under_way = v.under_way in
      let tail : UnderWayIn p t o ms = take-quiet p (transfer b x n) ms refl (λ i. refl) (λ h y g. refl) under_way in
      let ok = under_way.fit.0 in
      let owed : OwedIn p t o ms = record { fail_owed = s.owed.fail_owed; inquire_owed = s.owed.inquire_owed; ascending = λ k. (s.owed.ascending k).1 } in
      by_bool (names_held t b n)
      (λ e. let hn : n ≡ t.held b = eqb-true n (t.held b) e in
      let n0 : 1 ≤ n = ok.0 in
      let own = v.column.holds b (omega arith) in
      let nu : t.held o.owner ≡ t.grant + o.ahead = v.column.number own.1 in
      let bo : b ≡ o.owner = own.0 in
      let hb : t.held b ≡ t.grant + o.ahead = rw bo nu in
      let d0 : o.ahead ≡ 0 = omega arith in
      let mem = law.site_in_range t.holder (v.arbiter.when_taken (λ z. omega arith)).1 in
      let qx = ok.2 (omega arith) (λ z. omega arith) in
      rw e (
        o,
        record {
          inquiries_fit = s.inquiries_fit;
          free_queue_empty = s.free_queue_empty;
          owed = owed;
          core = record {
            arbiter = v.arbiter;
            asks = v.asks;
            under_way = tail;
            column = record {
              holds = v.column.holds;
              number = v.column.number;
              remembered = v.column.remembered;
              heirs = λ k. by_bool (eqb k b)
                  (λ c. rw c (λ z. (eqb-true k b c ∙ bo, own.1, d0, qx.1)))
                  (λ c. rw c (v.column.heirs k));
            };
          };
        },
      ))
      (λ e. rw e (o, record { inquiries_fit = s.inquiries_fit; free_queue_empty = s.free_queue_empty; owed = owed; core = record { arbiter = v.arbiter; asks = v.asks; under_way = tail; column = v.column } }))
