-- What taking a message off and sending one do to what is owed: L1 is about fails, L2 and L3 about inquires. All inquires to one site
-- go the same way, so they arrive in order of sending, and their numbers ascend because the grant number only grows.
use Prim.Native.Nat.{ℕ, ◌≤◌}
use mathlib.Core.Path.{◌≡◌, refl, sym, ◌∙◌}
use mathlib.Core.Bool.{Bool, true, false, cond}
use mathlib.Core.List.{List, [], ◌∷◌, ◌++◌}
use mathlib.Core.Option.{some}
use native.Mathlib.Omega.{arith}
use lib.Dec.{eqb}
use borrow.Author.Tests.{eqb-true, eqb-false, eq-eqb}
use Rattle.basics.specs.Helpers.{update, first, without_first, All}
use Rattle.protocol.specs.Ask.{Ask}
use Rattle.protocol.specs.Message.{Message, inquire, INQUIRE, kind, route, between}
use Rattle.protocol.specs.Setting.{Setting}
use Rattle.basics.proofs.Basics.{by_bool, clash, and_split}
use Rattle.basics.proofs.Lists.{all_map, first_holds, snoc-keep, snoc-zero}
use Rattle.protocol.proofs.Invariant.{site_of, number_of, is_fail_for, is_inquire_to, is_inquire, Ascending, Situation, Column, UnderWay, Owed}
use Rattle.protocol.proofs.Sending.{route-from}
use Rattle.protocol.proofs.Fitting.{fits-inquire}

-- a smaller bound
pub ascending-low : (k lo lo' : ℕ) (ms : List Message) → lo' ≤ lo → Ascending k lo ms → Ascending k lo' ms
unfolding Ascending
ascending-low k lo lo' [] l a = tt
ascending-low k lo lo' (m ∷ ms) l a = by_bool (is_inquire_to k m)
    (λ e. let w = a.0 e in (λ z. omega arith, rw e (rw e at a.1)))
    (λ e. (λ z. clash (is_inquire_to k m) z e, rw e (ascending-low k lo lo' ms l (rw e at a.1))))

-- one more at the end, not below the others
pub ascending-snoc : (k lo : ℕ) (ms : List Message) (m : Message) → (is_inquire_to k m ≡ true → lo ≤ number_of m) → (is_inquire_to k m ≡ true → All (λ x. is_inquire_to k x ≡ true → number_of x ≤ number_of m) ms) → Ascending k lo ms → Ascending k lo (ms ++ m ∷ [])
unfolding Ascending All
ascending-snoc k lo [] m l f a = (l, tt)
ascending-snoc k lo (x ∷ ms) m l f a = (
  a.0,
  ascending-snoc k (cond (is_inquire_to k x) (number_of x) lo) ms m
      (λ e. by_bool (is_inquire_to k x) (λ u. rw u ((f e).0 u)) (λ u. rw u (l e))) (λ e. (f e).1) a.1,
)

-- one more at the end that is no inquire
pub ascending-other : (k lo : ℕ) (ms : List Message) (m : Message) → is_inquire_to k m ≡ false → Ascending k lo ms → Ascending k lo (ms ++ m ∷ [])
ascending-other k lo ms m e a = ascending-snoc k lo ms m (λ z. clash (is_inquire_to k m) z e) (λ z. clash (is_inquire_to k m) z e) a

-- all inquires to one site go the same way
inquire-from : (j k : ℕ) (m : Message) → is_inquire_to k m ≡ true → between j j k m ≡ true
inquire-from j k m e =
    let w = and_split (eqb (kind m) INQUIRE) (eqb k (site_of m)) e in
    let v = route-from j m w.0 in
    rw (v.0, v.1, eq-eqb j j refl, w.1)

inquire-channel : (j a b k : ℕ) (m : Message) → is_inquire_to k m ≡ true → between j a b m ≡ true → (a ≡ j) × (b ≡ k)
inquire-channel j a b k m e u =
    let w = and_split (eqb (kind m) INQUIRE) (eqb k (site_of m)) e in
    let v = route-from j m w.0 in
    let c = and_split (eqb a (route j m).from) (eqb b (route j m).to) u in
    (eqb-true a _ c.0 ∙ v.0, eqb-true b _ c.1 ∙ v.1 ∙ sym (eqb-true k (site_of m) w.1))

-- the message that is taken off may stand first
pub ascending-first : (j a b k lo : ℕ) (ms : List Message) (m : Message) → first (between j a b) ms ≡ some m → Ascending k lo ms → Ascending k lo (m ∷ without_first (between j a b) ms)
unfolding Ascending first without_first
ascending-first j a b k lo [] m e o = let z : ◌≡◌ {A = ℕ} 0 1 = cc in absurd (omega arith)
ascending-first j a b k lo (y ∷ ms) m e o =
    by_bool (between j a b y)
    (λ t. let w : y ≡ m = cc in rw (t, ← w) o)
    (λ t. let e' = rw t at e in
    let ih = ascending-first j a b k (cond (is_inquire_to k y) (number_of y) lo) ms m e' o.1 in
    rw t (by_bool (is_inquire_to k m)
    (λ u. let c = inquire-channel j a b k m u (first_holds (between j a b) ms m e') in
    let ny : is_inquire_to k y ≡ false = by_bool (is_inquire_to k y) (λ v. clash (between j a b y) (rw (c.0, c.1) (inquire-from j k y v)) t) (λ v. v) in
    (λ z. rw ny at (ih.0 u), (λ z. clash (is_inquire_to k y) z ny, rw (u, ny) (rw u at ih.1))))
    (λ u. (λ z. clash (is_inquire_to k m) z u, (rw u o.0, rw u (rw u at ih.1))))))

module _ (p : Setting) where
  -- an inquire of the grant number may be sent
  pub ascending-inquire : {s : Situation} {known : ℕ → ℕ} (inquired : ℕ → ℕ) (h : ℕ) (ms : List Message) → UnderWay p s known ms
      → ((k : ℕ) → inquired k ≤ s.grant) → ((k : ℕ) → Ascending k (inquired k) ms) → (k : ℕ) → Ascending k (inquired k) (ms ++ inquire h s.grant ∷ [])
  ascending-inquire {s} inquired h ms m l a k =
      ascending-snoc k (inquired k) ms (inquire h s.grant) (λ e. l k) (λ e. all_map _ _ ms (λ x o. fits-inquire p s k x o) m.fit) (a k)

  -- no remembered number is past the grant number
  pub inquired-low : {g : ℕ} {q : ℕ → Ask} {mode held heir inquired : ℕ → ℕ} {owner d stage : ℕ} → Column p g q mode held heir inquired owner d stage → (k : ℕ) → inquired k ≤ g
  inquired-low {g} {inquired = inquired} c k = by_bool (eqb (inquired k) 0) (λ e. let y = eqb-true (inquired k) 0 e in omega arith) (λ e. (c.remembered k (eqb-false (inquired k) 0 e)).2)

  -- one more message that is no inquire
  pub owed-send : {g holder : ℕ} {holder_ask : Ask} {q ask : ℕ → Ask} {failed : ℕ → Bool} {inquired : ℕ → ℕ} {owner d stage : ℕ} {known : ℕ → ℕ} (ms : List Message) (m : Message) → ((k : ℕ) → is_inquire_to k m ≡ false)
      → Owed p g holder holder_ask q ask failed inquired owner d stage known ms → Owed p g holder holder_ask q ask failed inquired owner d stage known (ms ++ m ∷ [])
  owed-send {g} {ask = ask} {inquired = inquired} {owner = owner} ms m n l = record {
    fail_owed = λ k a b c d. l.fail_owed k a b c (snoc-zero (is_fail_for k (ask k)) ms m d);
    inquire_owed = λ a b c d e f h. snoc-keep (is_inquire owner g) ms m (l.inquire_owed a b c d e f h);
    ascending = λ k. ascending-other k (inquired k) ms m (n k) (l.ascending k);
  }

  -- the ghosts put to the names at hand
  pub fix-owed : {g holder : ℕ} {holder_ask : Ask} {q ask : ℕ → Ask} {failed : ℕ → Bool} {inquired : ℕ → ℕ} {known : ℕ → ℕ} {ms : List Message} (owner d stage b e s : ℕ) → b ≡ owner → e ≡ d → s ≡ stage
      → Owed p g holder holder_ask q ask failed inquired owner d stage known ms → Owed p g holder holder_ask q ask failed inquired b e s known ms
  fix-owed owner d stage b e s x y z l = rw (x, y, z) l

  -- the inquire remembered at b is forgotten
  pub ascending-update : (inquired : ℕ → ℕ) (b v : ℕ) (ms : List Message) → v ≤ inquired b → ((k : ℕ) → Ascending k (inquired k) ms) → (k : ℕ) → Ascending k (update inquired b v k) ms
  unfolding update
  ascending-update inquired b v ms l a k = by_bool (eqb k b) (λ e. rw e (ascending-low k (inquired k) v ms (rw (eqb-true k b e) l) (a k))) (λ e. rw e (a k))
