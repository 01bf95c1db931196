-- What taking a message off and sending one do to the messages under way of one arbiter. The message that is taken off may be
-- thought to stand first: the order R2 is only ever about messages from one site to the arbiter, and of each such channel the
-- first is taken. A message that carries no permission and is neither request nor return may be appended if it fits.
use Prim.Native.Nat.{ℕ, ◌≤◌}
use mathlib.Core.Path.{◌≡◌, refl, sym, ◌∙◌}
use mathlib.Core.Logic.{◌≢◌}
use mathlib.Core.Bool.{Bool, true, false, ◌||◌}
use mathlib.Core.List.{List, [], ◌∷◌, ◌++◌}
use mathlib.Core.Option.{some}
use native.Mathlib.Omega.{arith}
use lib.Dec.{eqb}
use borrow.Author.Tests.{eqb-true, eq-eqb}
use Rattle.basics.specs.Helpers.{tally, first, without_first, All}
use Rattle.protocol.specs.Message.{Message, request, reply, release, hand_over, inquire, fail, yield, transfer, REQUEST, RELEASE, INQUIRE, YIELD, HANDOVER, kind, route, between, is_back}
use Rattle.protocol.specs.Setting.{Setting}
use Rattle.basics.proofs.Basics.{by_bool, clash, and_split}
use Rattle.basics.proofs.Lists.{tally-cons, tally-snoc, tally-snoc-no, all_snoc, first_holds, tally-without, all_without}
use Rattle.protocol.proofs.Invariant.{site_of, carries_permission, is_request_of, is_return_of, is_hand_over, Ordered, Situation, Fits, UnderWay}

-- a return may be sent where no request of that site is under way
pub ordered-snoc : (ms : List Message) (m : Message) → ((i : ℕ) → is_return_of i m ≡ true → tally (is_request_of i) ms ≡ 0) → Ordered ms → Ordered (ms ++ m ∷ [])
unfolding Ordered tally
ordered-snoc [] m h o = (λ i e. refl, tt)
ordered-snoc (x ∷ ms) m h o = (
  λ i e. let old = o.0 i e in
      rw (tally-snoc (is_return_of i) ms m) (by_bool (is_return_of i m)
      (λ t. let z = rw e at (h i t) in absurd (omega arith))
      (λ t. rw t (omega arith))),
  ordered-snoc ms m (λ i e. by_bool (is_request_of i x) (λ t. let z = rw t at (h i e) in absurd (omega arith)) (λ t. rw t at (h i e))) o.1,
)

-- to take off keeps the order
pub ordered-without : (p : Message → Bool) (ms : List Message) (m : Message) → first p ms ≡ some m → Ordered ms → Ordered (without_first p ms)
unfolding Ordered first without_first tally
ordered-without p [] m e o = tt
ordered-without p (x ∷ ms) m e o =
    by_bool (p x)
    (λ t. rw t o.1)
    (λ t. let e' = rw t at e in
    rw t (
      λ i r. let z = o.0 i r in let y = tally-without p (is_return_of i) ms m e' in
          let w = tally-cons (is_return_of i) m (without_first p ms) in omega arith,
      ordered-without p ms m e' o.1,
    ))

-- from whom and to whom a message goes, by its kind
unfoldable to_arbiter : ℕ → Bool
to_arbiter c = eqb c REQUEST || ((eqb c YIELD || eqb c RELEASE) || eqb c HANDOVER)

route-to : (j : ℕ) (m : Message) → to_arbiter (kind m) ≡ true → ((route j m).from ≡ site_of m) × ((route j m).to ≡ j)
unfolding to_arbiter
route-to j (request k n) e = (refl, refl)
route-to j (reply f k n) e = clash false e refl
route-to j (release k n) e = (refl, refl)
route-to j (hand_over k x n) e = (refl, refl)
route-to j (inquire k n) e = clash false e refl
route-to j (fail k n) e = clash false e refl
route-to j (yield k n) e = (refl, refl)
route-to j (transfer k x n) e = clash false e refl

pub route-from : (j : ℕ) (m : Message) → eqb (kind m) INQUIRE ≡ true → ((route j m).from ≡ j) × ((route j m).to ≡ site_of m)
route-from j (request k n) e = clash false e refl
route-from j (reply f k n) e = clash false e refl
route-from j (release k n) e = clash false e refl
route-from j (hand_over k x n) e = clash false e refl
route-from j (inquire k n) e = (refl, refl)
route-from j (fail k n) e = clash false e refl
route-from j (yield k n) e = clash false e refl
route-from j (transfer k x n) e = clash false e refl

-- a request and a return of one site go the same way
request-from : (j a b i : ℕ) (m : Message) → is_request_of i m ≡ true → between j a b m ≡ true → (a ≡ i) × (b ≡ j)
unfolding to_arbiter
request-from j a b i m r e =
    let w = and_split (eqb (kind m) REQUEST) (eqb i (site_of m)) r in
    let v = route-to j m (rw w.0) in
    let c = and_split (eqb a (route j m).from) (eqb b (route j m).to) e in
    (eqb-true a _ c.0 ∙ v.0 ∙ sym (eqb-true i (site_of m) w.1), eqb-true b _ c.1 ∙ v.1)

return_from : (j i : ℕ) (m : Message) → is_return_of i m ≡ true → between j i j m ≡ true
unfolding to_arbiter
return_from j i m r =
    let w = and_split (is_back m || eqb (kind m) HANDOVER) (eqb i (site_of m)) r in
    let v = route-to j m (by_bool (eqb (kind m) REQUEST) (λ u. rw u) (λ u. rw u w.0)) in
    rw (v.0, v.1, w.1, eq-eqb j j refl)

-- no return of a site stands behind its request that is taken off
no-return-behind : (j a b : ℕ) (ms : List Message) (m : Message) → first (between j a b) ms ≡ some m → Ordered ms → (i : ℕ) → is_request_of i m ≡ true → tally (is_return_of i) (without_first (between j a b) ms) ≡ 0
unfolding Ordered first without_first tally
no-return-behind j a b [] m e o i r = refl
no-return-behind j a b (y ∷ ms) m e o i r =
    by_bool (between j a b y)
    (λ t. let w : y ≡ m = cc in rw t (o.0 i (rw w r)))
    (λ t. let e' = rw t at e in
    let ih = no-return-behind j a b ms m e' o.1 i r in
    let c = request-from j a b i m r (first_holds (between j a b) ms m e') in
    let nb : is_return_of i y ≡ false = by_bool (is_return_of i y) (λ u. clash (between j a b y) (rw (c.0, c.1) (return_from j i y u)) t) (λ u. u) in
    rw (t, nb) ih)

module _ (p : Setting) where
  -- the message that is taken off may stand first
  pub first-under_way : {s : Situation} {known : ℕ → ℕ} (ms : List Message) (a b : ℕ) (m : Message) → first (between p.arbiter a b) ms ≡ some m → UnderWay p s known ms → UnderWay p s known (m ∷ without_first (between p.arbiter a b) ms)
  unfolding Ordered
  first-under_way {s} ms a b m e x = record {
    permissions = rw (tally-without (between p.arbiter a b) carries_permission ms m e) x.permissions;
    requests = λ k u w. rw (tally-without (between p.arbiter a b) (is_request_of k) ms m e) (x.requests k u w);
    hand_overs = λ u. rw (tally-without (between p.arbiter a b) (is_hand_over s.holder s.owner s.grant) ms m e) (x.hand_overs u);
    fit = all_without (between p.arbiter a b) _ ms m e x.fit;
    ordered = (no-return-behind p.arbiter a b ms m e x.ordered, ordered-without (between p.arbiter a b) ms m e x.ordered);
  }

  -- one more message that carries nothing
  pub send-quiet : {s : Situation} {known : ℕ → ℕ} (ms : List Message) (m : Message) → carries_permission m ≡ false → ((i : ℕ) → is_request_of i m ≡ false) → ((i : ℕ) → is_return_of i m ≡ false)
      → Fits p s m → UnderWay p s known ms → UnderWay p s known (ms ++ m ∷ [])
  send-quiet {s} ms m nt nr nb k x = record {
    permissions = rw (tally-snoc-no carries_permission ms m nt) x.permissions;
    requests = λ i u w. rw (tally-snoc-no (is_request_of i) ms m (nr i)) (x.requests i u w);
    hand_overs = λ u. let z = x.hand_overs u in let w = tally-snoc (is_hand_over s.holder s.owner s.grant) ms m in omega arith;
    fit = all_snoc _ ms m x.fit k;
    ordered = ordered-snoc ms m (λ i e. clash (is_return_of i m) e (nb i)) x.ordered;
  }

  -- the three kinds
  pub send-fail : {s : Situation} {known : ℕ → ℕ} (ms : List Message) (k n : ℕ) → p.member k ≡ true → UnderWay p s known ms → UnderWay p s known (ms ++ fail k n ∷ [])
  unfolding Fits
  send-fail ms k n h x = send-quiet ms (fail k n) refl (λ i. refl) (λ i. refl) h x

  pub send-inquire : {s : Situation} {known : ℕ → ℕ} (ms : List Message) (k n : ℕ) → 1 ≤ n → n ≤ s.grant → p.member k ≡ true → UnderWay p s known ms → UnderWay p s known (ms ++ inquire k n ∷ [])
  unfolding Fits
  send-inquire ms k n a b h x = send-quiet ms (inquire k n) refl (λ i. refl) (λ i. refl) (a, b, h) x

  pub send-transfer : {s : Situation} {known : ℕ → ℕ} (ms : List Message) (k y n : ℕ) → 1 ≤ n → n ≤ s.grant → k ≡ s.holder → (s.queued y).number ≢ 0 → p.member k ≡ true → p.member y ≡ true → UnderWay p s known ms → UnderWay p s known (ms ++ transfer k y n ∷ [])
  unfolding Fits
  send-transfer ms k y n a b c d h i x = send-quiet ms (transfer k y n) refl (λ i. refl) (λ i. refl) (a, b, λ u w. (c, d), h, i) x

  -- a message that is no request and no hand-over and carries nothing may be taken off
  pub take-quiet : {s : Situation} {known : ℕ → ℕ} (m : Message) (ms : List Message) → carries_permission m ≡ false → ((i : ℕ) → is_request_of i m ≡ false) → ((h x n : ℕ) → is_hand_over h x n m ≡ false)
      → UnderWay p s known (m ∷ ms) → UnderWay p s known ms
  unfolding tally All Ordered
  take-quiet {s} m ms nc nr nh x = record {
    permissions = rw nc at x.permissions;
    requests = λ i u w. rw (nr i) at (x.requests i u w);
    hand_overs = λ u. rw (nh s.holder s.owner s.grant) at (x.hand_overs u);
    fit = x.fit.1;
    ordered = x.ordered.1;
  }
