-- The head of the queue is what document 01 says: the queued site that comes before all others queued. It stays the head when another
-- site leaves the queue, and when a new one is queued that does not come first.
use Prim.Native.Nat.{ℕ, zero, suc, ◌≤◌}
use mathlib.Core.Path.{◌≡◌, refl, sym, ◌∙◌}
use mathlib.Core.Logic.{◌≢◌}
use mathlib.Core.Bool.{true, false}
use native.Mathlib.Omega.{arith}
use lib.Dec.{eqb}
use borrow.Author.Tests.{eqb-true, eqb-false, eq-eqb, ne_eqb}
use Rattle.basics.specs.Helpers.{update}
use Rattle.protocol.specs.Ask.{Ask, no_ask, is_no_ask}
use Rattle.protocol.specs.Setting.{Setting, SettingLaw}
use Rattle.protocol.specs.Arbiter.{goes_first, head, head_of}
use Rattle.basics.proofs.Basics.{by_bool, clash}

module _ (p : Setting) where
  pub record IsHead (q : ℕ → Ask) (n h : ℕ) : Type 0 where
    pub empty : h ≡ 0 → (i : ℕ) → 1 ≤ i → i ≤ n → (q i).number ≡ 0
    pub found : h ≢ 0 → (1 ≤ h) × (h ≤ n) × ((q h).number ≢ 0)
    pub comes_first : h ≢ 0 → (i : ℕ) → 1 ≤ i → i ≤ n → (q i).number ≢ 0 → i ≢ h → p.comes_before (q h) h (q i) i ≡ true

module _ (p : Setting) (law : SettingLaw p) where
  -- the order is asymmetric
  pub asym : (a : Ask) (x : ℕ) (b : Ask) (y : ℕ) → p.comes_before a x b y ≡ true → p.comes_before b y a x ≡ false
  asym a x b y e = by_bool (p.comes_before b y a x) (λ f. clash (p.comes_before a x a x) (law.transitive a x b y a x e f) (law.irreflexive a x)) (λ f. f)

  -- the definition gives the head
  pub head-of : (q : ℕ → Ask) (n : ℕ) → IsHead p q n (head p q n)
  unfolding head
  head-of q zero = record { empty = λ z i a b. absurd (omega arith); found = λ z. absurd (z refl); comes_first = λ z. absurd (z refl) }
  head-of q (suc n) =
      let r = head-of q n in
      let low : (i : ℕ) → i ≤ suc n → i ≢ suc n → i ≤ n = λ i a b. omega arith in
      by_bool (is_no_ask (q (suc n)))
      (λ e. let z = eqb-true (q (suc n)).number 0 e in rw e (record {
        empty = λ u i a b. by_bool (eqb i (suc n)) (λ f. rw (eqb-true i (suc n) f) z) (λ f. r.empty u i a (low i b (eqb-false i (suc n) f)));
        found = λ u. let w = r.found u in (w.0, omega arith, w.2);
        comes_first = λ u i a b c d. by_bool (eqb i (suc n)) (λ f. absurd (c (rw (eqb-true i (suc n) f) z))) (λ f. r.comes_first u i a (low i b (eqb-false i (suc n) f)) c d);
      }))
      (λ e. let z = eqb-false (q (suc n)).number 0 e in
      by_bool (eqb (head p q n) 0)
      (λ g. let w = eqb-true (head p q n) 0 g in rw (e, g) (record {
        empty = λ u. absurd (omega arith);
        found = λ u. (omega arith, omega arith, z);
        comes_first = λ u i a b c d. absurd (c (r.empty w i a (low i b d)));
      }))
      (λ g. let w = eqb-false (head p q n) 0 g in
      by_bool (goes_first p q (suc n) (head p q n))
      (λ f. rw (e, g, f) (record {
        empty = λ u. absurd (omega arith);
        found = λ u. (omega arith, omega arith, z);
        comes_first = λ u i a b c d. by_bool (eqb i (head p q n))
            (λ x. rw (eqb-true i (head p q n) x) f)
            (λ x. law.transitive (q (suc n)) (suc n) (q (head p q n)) (head p q n) (q i) i f (r.comes_first w i a (low i b d) c (eqb-false i (head p q n) x)));
      }))
      (λ f. rw (e, g, f) (record {
        empty = λ u. absurd (w u);
        found = λ u. let y = r.found w in (y.0, omega arith, y.2);
        comes_first = λ u i a b c d. by_bool (eqb i (suc n))
            (λ x. rw (eqb-true i (suc n) x) (law.total (q (suc n)) (suc n) (q (head p q n)) (head p q n) (λ y. let v = r.found w in omega arith) f))
            (λ x. r.comes_first w i a (low i b (eqb-false i (suc n) x)) c d);
      }))))

  -- and there is only one
  pub head-is : (q : ℕ → Ask) (h : ℕ) → 1 ≤ h → h ≤ p.size → (q h).number ≢ 0 → ((i : ℕ) → 1 ≤ i → i ≤ p.size → (q i).number ≢ 0 → i ≢ h → p.comes_before (q h) h (q i) i ≡ true) → head_of p q ≡ h
  head-is q h l u n f =
      let r = head-of q p.size in
      by_bool (eqb (head_of p q) 0)
      (λ e. absurd (n (r.empty (eqb-true (head_of p q) 0 e) h l u)))
      (λ e. let z = eqb-false (head_of p q) 0 e in
      let w = r.found z in
      by_bool (eqb (head_of p q) h) (λ g. eqb-true (head_of p q) h g)
      (λ g. let ne = eqb-false (head_of p q) h g in
      clash (p.comes_before (q h) h (q (head_of p q)) (head_of p q)) (f (head_of p q) w.0 w.1 w.2 ne)
      (asym (q (head_of p q)) (head_of p q) (q h) h (r.comes_first z h l u n (λ y. ne (sym y))))))

  -- the head stays when another leaves the queue
  pub head-remove : (q : ℕ → Ask) (i k : ℕ) → head_of p q ≡ i → i ≢ 0 → i ≢ k → head_of p (update q k no_ask) ≡ i
  unfolding update
  head-remove q i k e z ne =
      let r = head-of q p.size in
      let hz : head_of p q ≢ 0 = λ y. z (sym e ∙ y) in
      let w = rw e at (r.found hz) in
      let a = rw e at (r.comes_first hz) in
      head-is (update q k no_ask) i w.0 w.1 (rw (ne_eqb i k ne) w.2)
      (λ x l u. by_bool (eqb x k) (λ f. rw f (λ n. absurd (n refl))) (λ f. rw (f, ne_eqb i k ne) (a x l u)))

  -- the head stays when the new one does not come first
  pub head-insert : (q : ℕ → Ask) (k : ℕ) (a : Ask) → (q k).number ≡ 0 → a.number ≢ 0 → 1 ≤ k → k ≤ p.size → head_of p (update q k a) ≢ k → head_of p q ≡ head_of p (update q k a)
  unfolding update
  head-insert q k a qk a0 l u ne =
      let r = head-of (update q k a) p.size in
      let hz : head_of p (update q k a) ≢ 0 = λ y. a0 (rw (eq-eqb k k refl) at (r.empty y k l u)) in
      let ek = ne_eqb (head_of p (update q k a)) k ne in
      let w = r.found hz in
      head-is q (head_of p (update q k a)) w.0 w.1 (rw ek at w.2)
      (λ i lo hi c d. by_bool (eqb i k) (λ e. absurd (c (rw (eqb-true i k e) qk)))
      (λ e. rw (ek, e) at (r.comes_first hz i lo hi (rw e c) d)))
