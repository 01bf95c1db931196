-- An inquire arrives at a site. Held with that number: a failed site yields (the number is at most the grant number, so the arbiter is
-- not behind), another remembers it (S4 holds). Not held: it is remembered in place of any older one, and by L3 it is no older.
-- Held with another number, or the site not waiting: it was not the inquire that L2 asks for.
use Prim.Native.Nat.{ℕ, ◌+◌, ◌≤◌}
use mathlib.Core.Path.{◌≡◌, refl, sym}
use mathlib.Core.Logic.{◌≢◌}
use mathlib.Core.Bool.{true, false}
use mathlib.Core.List.{List, ◌∷◌}
use native.Mathlib.Omega.{arith}
use lib.Dec.{eqb}
use borrow.Author.Tests.{eqb-true, eqb-false, eq-eqb, ne_eqb}
use Rattle.basics.specs.Helpers.{update, tally, All}
use Rattle.protocol.specs.Message.{Message, inquire}
use Rattle.protocol.specs.Setting.{Setting}
use Rattle.protocol.specs.Local.{WAITING, Local, view, with_entries}
use Rattle.protocol.specs.Site.{on_inquire}
use Rattle.basics.proofs.Basics.{by_bool, and_split}
use Rattle.protocol.proofs.Invariant.{is_inquire, Ordered, Ascending, Fits, UnderWayIn, Core, Invariant}
use Rattle.protocol.proofs.Sending.{take-quiet}
use Rattle.protocol.proofs.Owing.{ascending-low}
use Rattle.protocol.proofs.Kept.Yielded.{yielded-kept, yielder-owns}

-- two steps of arithmetic, apart from the rule, where `omega` would read all that is known there
not-above : (n h g : ℕ) → n ≡ h → n ≤ g → h ≤ g
not-above n h g e l = omega arith

same : (n g h a : ℕ) → g ≡ n → h ≡ g + a → a ≡ 0 → n ≡ h
same n g h a p q r = omega arith

module _ (p : Setting) where
  -- the rule
  pub on_inquire-kept : (t : Local) (b n : ℕ) (ms : List Message) → Invariant p (view t (inquire b n ∷ ms)) → Invariant p (on_inquire (view t ms) b n)
  unfolding on_inquire All Ordered tally update Fits Ascending
  on_inquire-kept t b n ms (o, s) =
      let v = s.core in
      let under_way = v.under_way in
      let ok = under_way.fit.0 in
      let tail : UnderWayIn p t o ms = take-quiet p (inquire b n) ms refl (λ i. refl) (λ h y g. refl) under_way in
      let c : Core p t o ms = record { arbiter = v.arbiter; asks = v.asks; column = v.column; under_way = tail } in
      let up : t.inquired b ≤ n = (s.owed.ascending b).0 (eq-eqb b b refl) in
      let ascending : (k : ℕ) → Ascending k (t.inquired k) ms = λ k. by_bool (eqb k b)
      (λ e. let kb = eqb-true k b e in rw kb (ascending-low b n (t.inquired b) ms up (rw (eq-eqb b b refl) at (s.owed.ascending b).1)))
      (λ e. rw e at (s.owed.ascending k).1) in
      by_bool (eqb (t.mode b) WAITING)
      (λ e. let w = eqb-true (t.mode b) WAITING e in
      by_bool (eqb (t.held b) 0)
      (λ h. rw (e, h) (remember w c ok up ascending (λ i j. absurd (j (eqb-true (t.held b) 0 h)))))
      (λ h. by_bool (eqb n (t.held b))
      (λ i. let hn = eqb-true n (t.held b) i in by_bool (t.failed b)
      (λ f. rw (e, h, i, f) (let y = yielder-owns p t o b ms c (eqb-false (t.held b) 0 h) (not-above n (t.held b) t.grant hn ok.1) in yielded-kept p t o b ms y.0 y.1 y.2 w c (λ k ne. s.inquiries_fit k) (λ k ne. s.owed.fail_owed k) ascending))
      (λ f. rw (e, h, i, f) (remember w c ok up ascending (λ x y. (hn, f)))))
      (λ i. rw (e, h, i) (ignore c ascending (λ ob d0 known ng.
      let own = c.column.holds b (eqb-false (t.held b) 0 h) in
      let nu : t.held o.owner ≡ t.grant + o.ahead = c.column.number own.1 in
      let hb : t.held b ≡ t.grant + o.ahead = rw own.0 nu in
      eqb-false n (t.held b) i (same n t.grant (t.held b) o.ahead ng hb d0))))))
      (λ e. rw e (ignore c ascending (λ ob d0 known ng. eqb-false (t.mode b) WAITING e (rw ob at (c.asks.known_waits o.owner known).0))))
    where
      -- the inquire was not the one that is owed
      ignore : Core p t o ms → ((k : ℕ) → Ascending k (t.inquired k) ms) → (o.owner ≡ b → o.ahead ≡ 0 → o.known o.owner ≢ 0 → t.grant ≡ n → ⊥) → Invariant p (view t ms)
      ignore c ascending f = (
        o,
        record {
          inquiries_fit = s.inquiries_fit;
          free_queue_empty = s.free_queue_empty;
          core = c;
          owed = record {
            fail_owed = s.owed.fail_owed;
            ascending = ascending;
            inquire_owed = λ a b1 c1 d1 e1 f1 g1. let old = s.owed.inquire_owed a b1 c1 d1 e1 f1 g1 in
                by_bool (is_inquire o.owner t.grant (inquire b n))
                (λ u. let y = and_split (eqb o.owner b) (eqb t.grant n) u in absurd (f (eqb-true o.owner b y.0) a d1 (eqb-true t.grant n y.1)))
                (λ u. rw u at old);
          };
        },
      )

      remember : t.mode b ≡ WAITING → Core p t o ms → (1 ≤ n) × (n ≤ t.grant) × (p.member b ≡ true) → t.inquired b ≤ n → ((k : ℕ) → Ascending k (t.inquired k) ms)
          → (n ≢ 0 → t.held b ≢ 0 → (n ≡ t.held b) × (t.failed b ≡ false)) → Invariant p (view (with_entries t t.held t.heir (update t.inquired b n)) ms)
      remember w c ok up ascending f = (
        o,
        record {
          free_queue_empty = s.free_queue_empty;
          inquiries_fit = λ k. by_bool (eqb k b) (λ e. rw e (λ x y. let kb = eqb-true k b e in rw kb (f x (rw kb at y)))) (λ e. rw e (s.inquiries_fit k));
          owed = record {
            fail_owed = s.owed.fail_owed;
            ascending = λ k. by_bool (eqb k b)
                (λ e. let kb = eqb-true k b e in rw e (rw kb (rw (eq-eqb b b refl) at (s.owed.ascending b).1)))
                (λ e. rw e (ascending k));
            inquire_owed = λ a b1 c1 d1 e1 f1. by_bool (eqb o.owner b)
                (λ e. let ob = eqb-true o.owner b e in rw e (λ g1.
                let old = s.owed.inquire_owed a b1 c1 d1 e1 f1 (rw ob (λ z. g1 (omega arith))) in
                rw (e, ne_eqb t.grant n (λ z. g1 (sym z))) at old))
                (λ e. rw e (λ g1. rw e at (s.owed.inquire_owed a b1 c1 d1 e1 f1 g1)));
          };
          core = record {
            arbiter = c.arbiter;
            asks = c.asks;
            under_way = c.under_way;
            column = record {
              holds = c.column.holds;
              number = c.column.number;
              heirs = c.column.heirs;
              remembered = λ k. by_bool (eqb k b) (λ e. rw e (λ x. let kb = eqb-true k b e in rw kb (w, ok.2, ok.1))) (λ e. rw e (c.column.remembered k));
            };
          };
        },
      )
