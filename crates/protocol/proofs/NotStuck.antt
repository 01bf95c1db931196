-- No rig is stuck. Let nothing be under way and nobody be inside. A waiting site that lacks a member and is not failed, or comes before
-- all waiting sites, is the head of that member's queue and comes before its holder, which by L2 remembers an inquire and by S4 is
-- not failed; the holder waits and comes later. So there would be no last waiting site that is not failed.
use Prim.Native.Nat.{ℕ, suc, ◌≤◌}
use mathlib.Core.Path.{◌≡◌, refl, sym, ◌∙◌}
use mathlib.Core.Logic.{◌⊎◌, inl, inr, ◌≢◌, ⊎_elim}
use mathlib.Core.Bool.{Bool, true, false, not, ◌&&◌}
use mathlib.Core.List.{[]}
use mathlib.Core.Option.{none}
use native.Mathlib.Omega.{arith}
use lib.Dec.{eqb}
use borrow.Author.Tests.{eqb-true, eqb-false, eq-eqb, ne_eqb, not-true}
use Rattle.basics.specs.Helpers.{tally, first}
use Rattle.protocol.specs.Setting.{Setting, SettingLaw}
use Rattle.protocol.specs.Local.{REST, WAITING, Local, view}
use Rattle.protocol.specs.Arbiter.{head_of}
use Rattle.protocol.specs.System.{System, Lawful, setting_of}
use Rattle.protocol.specs.Rig.{Row, Sites, local_of}
use Rattle.basics.proofs.Basics.{by_bool, clash, and_split, count-some, Least, least}
use Rattle.protocol.proofs.Asks.{same_number}
use Rattle.protocol.proofs.Head.{head-is}
use Rattle.protocol.proofs.Seen.{law-of}
use Rattle.protocol.proofs.Clauses.{Clauses}

module _ (p : Setting) (law : SettingLaw p) (t : Local) (v : Clauses p (view t [])) (out : (k : ℕ) → (t.mode k ≡ REST) ⊎ (t.mode k ≡ WAITING)) where
  -- with nothing under way and nobody inside, a holder has the permission
  pub holder-holds : t.holder ≢ 0 → (t.held t.holder ≡ t.grant) × (t.held t.holder ≢ 0) × (t.mode t.holder ≡ WAITING) × (t.holder_ask ≡ t.ask t.holder)
  unfolding tally
  holder-holds h =
      let one = rw (ne_eqb t.holder 0 h) at v.A3 in
      let (i, f) = count-some (λ k. not (eqb (t.held k) 0)) p.size (λ z. omega arith) in
      let hi : t.held i ≢ 0 = (λ z. clash true refl (sym (rw (eq-eqb (t.held i) 0 z) at f))) in
      elim (v.T2 i hi).0 [
        | inl w ↦ let e = w.0 in
            let hh : t.held t.holder ≢ 0 = rw e at hi in
            let hg : t.held t.holder ≡ t.grant = rw e at w.1 in
            let mo : t.mode t.holder ≡ WAITING = elim (out t.holder) [ inl m ↦ absurd (hh (v.S1 t.holder m).0) | inr m ↦ m ] in
            (hg, hh, mo, (rw e at w.2) mo)
        | inr w ↦ let y = w.3.1 in absurd (omega arith)
      ]

  -- a queued site waits, and its entry is current
  pub queued-current : (i : ℕ) → (t.queued i).number ≢ 0 → (t.mode i ≡ WAITING) × (t.queued i ≡ t.ask i)
  unfolding tally
  queued-current i h =
      let mi = v.queued_member i h in
      elim (out i) [
        | inl m ↦ let w = (v.R4 i mi (inl m)).0 h in absurd (omega arith)
        | inr m ↦ elim (v.R3 i m mi refl) [ inl w ↦ absurd (h w.2) | inr w ↦ (m, w.1) ]
      ]

  -- a waiting site that lacks the permission, and is not failed or comes first, waits for one that comes later and is not failed
  pub waits-for-later : (k : ℕ) → t.mode k ≡ WAITING → p.member k ≡ true → t.held k ≡ 0
      → (t.failed k ≡ false) ⊎ ((i : ℕ) → t.mode i ≡ WAITING → i ≢ k → p.comes_before (t.ask k) k (t.ask i) i ≡ true)
      → (h : ℕ) × (t.mode h ≡ WAITING) × (t.failed h ≡ false) × (p.comes_before (t.ask k) k (t.ask h) h ≡ true)
  unfolding tally
  waits-for-later k m e h0 d =
      let k1 = law.site_in_range k e in
      let sk = v.waiting_numbered k m in
      elim (v.R3 k m e refl) [
        | inl w ↦ let h = (holder-holds (λ z. let y = w.0 in omega arith)).1 in absurd (h (rw w.0 h0))
        | inr w ↦
            let hz : t.holder ≢ 0 = (λ z. let y = v.A1 z k in let u = same_number w.1 in omega arith) in
            let h = holder-holds hz in
            let qk : (t.queued k).number ≢ 0 = (λ z. let u = same_number w.1 in omega arith) in
            let first : (head_of p t.queued ≡ k) × (p.comes_before (t.queued k) k t.holder_ask t.holder ≡ true) = elim d [
              | inl f ↦ v.L1 k m e refl w.0 refl h0 f refl
              | inr f ↦ (
                head-is p law t.queued k k1.0 k1.1 qk
                    (λ i a b c ne. let y = queued-current i c in rw (w.1, y.1) (f i y.0 ne)),
                rw (w.1, h.3) (f t.holder h.2 w.0),
              )
            ] in
            let iq : t.inquired t.holder ≡ t.grant = by_bool (eqb (t.inquired t.holder) t.grant) (λ x. eqb-true (t.inquired t.holder) t.grant x)
            (λ x. let y = v.L2 hz h.2 (inr h.0) (λ z. let u = first.0 in omega arith) (rw first.0 first.1) (eqb-false (t.inquired t.holder) t.grant x) in absurd (omega arith)) in
            let hg = h.0 in let hn = h.1 in
            let nf = (v.S4 t.holder h.1 (λ z. hn (hg ∙ sym iq ∙ z))).1 in
            (t.holder, h.2, nf, rw (w.1, h.3) at first.1)
      ]

module _ (y : System) (lw : Lawful y) (s : Sites) (rows : ℕ → Row)
    (inv : (j : ℕ) → Clauses (setting_of y j) (view (local_of s (rows j)) []))
    (out : (k : ℕ) → (s.mode k ≡ REST) ⊎ (s.mode k ≡ WAITING))
    (in_range : (k : ℕ) → s.mode k ≡ WAITING → k ≤ y.size)
    (lacks_one : (k : ℕ) → s.mode k ≡ WAITING → (j : ℕ) × (y.sets k j ≡ true) × ((rows j).held k ≡ 0)) where
  -- who asked before whom, both ways round
  sooner : ℕ → ℕ → Bool
  sooner a b = y.comes_before (s.ask a) a (s.ask b) b

  later : ℕ → ℕ → Bool
  later a b = y.comes_before (s.ask b) b (s.ask a) a

  soon-irrefl : (a : ℕ) → sooner a a ≡ false
  unfolding sooner
  soon-irrefl a = lw.irreflexive (s.ask a) a

  soon-trans : (a b c : ℕ) → sooner a b ≡ true → sooner b c ≡ true → sooner a c ≡ true
  unfolding sooner
  soon-trans a b c = lw.transitive (s.ask a) a (s.ask b) b (s.ask c) c

  late-irrefl : (a : ℕ) → later a a ≡ false
  unfolding later
  late-irrefl a = lw.irreflexive (s.ask a) a

  late-trans : (a b c : ℕ) → later a b ≡ true → later b c ≡ true → later a c ≡ true
  unfolding later
  late-trans a b c p q = lw.transitive (s.ask c) c (s.ask b) b (s.ask a) a q p

  -- who waits, and who waits and is not failed
  waits : ℕ → Bool
  waits k = eqb (s.mode k) WAITING

  unfailed : ℕ → Bool
  unfailed k = eqb (s.mode k) WAITING && not (s.failed k)

  -- from a waiting site to a later one, which is not failed
  next : (k : ℕ) → s.mode k ≡ WAITING → (s.failed k ≡ false) ⊎ ((i : ℕ) → s.mode i ≡ WAITING → i ≢ k → y.comes_before (s.ask k) k (s.ask i) i ≡ true)
      → (h : ℕ) × (s.mode h ≡ WAITING) × (s.failed h ≡ false) × (y.comes_before (s.ask k) k (s.ask h) h ≡ true)
  next k m d = let (j, e, h) = lacks_one k m in waits-for-later (setting_of y j) (law-of y lw j) (local_of s (rows j)) (inv j) out k m e h d

  -- so none that is not failed is the last
  no_last : Least later late-irrefl late-trans unfailed (suc y.size) → ⊥
  unfolding later unfailed
  no_last l =
      let w = and_split (eqb (s.mode l.at) WAITING) (not (s.failed l.at)) l.marked in
      let (h, m, f, b) = next l.at (eqb-true (s.mode l.at) WAITING w.0) (inl (not-true (s.failed l.at) w.1)) in
      let z = in_range h m in
      clash (y.comes_before (s.ask l.at) l.at (s.ask h) h) b (l.first h (omega arith) (rw (eq-eqb (s.mode h) WAITING m, f)))

  -- nobody is stuck: with nothing under way and nobody inside, nobody waits
  pub nobody-waits : (k : ℕ) → s.mode k ≢ WAITING
  unfolding sooner later waits unfailed
  nobody-waits k m = ⊎_elim
      (λ l. let lm = eqb-true (s.mode l.at) WAITING l.marked in
      let (h, mh, f, b) = next l.at lm (inr (λ i mi ne. let z = in_range i mi in lw.total (s.ask i) i (s.ask l.at) l.at ne (l.first i (omega arith) (eq-eqb (s.mode i) WAITING mi)))) in
      let z = in_range h mh in
      ⊎_elim no_last (λ none-unfailed. clash (unfailed h) (rw (eq-eqb (s.mode h) WAITING mh, f)) (none-unfailed h (omega arith)))
      (least later late-irrefl late-trans unfailed (suc y.size)))
      (λ none. let z = in_range k m in clash (waits k) (eq-eqb (s.mode k) WAITING m) (none k (omega arith)))
      (least sooner soon-irrefl soon-trans waits (suc y.size))
