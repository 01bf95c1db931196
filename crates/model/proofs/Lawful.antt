-- Setup's acceptance gives the laws of the family, and document 01's priority the laws of an order.
use Prim.Native.Nat.{ℕ, zero, suc, pred, ◌+◌, ◌-◌, ◌/◌, ◌%◌, ◌^◌, ◌≤◌, ◌<◌}
use mathlib.Core.Path.{◌≡◌, refl, sym, ◌∙◌, ap}
use mathlib.Core.Logic.{◌≢◌}
use mathlib.Core.Bool.{Bool, true, false, not, ◌&&◌}
use mathlib.Core.List.{List, ◌++◌}
use native.Mathlib.Omega.{arith}
use native.Mathlib.Nat.{div-lt_iff_lt-mul}
use lib.Dec.{eqb, ltb}
use lib.ListN.{length, take, get_or, replicate, length-append, length-replicate, get_or-append}
use lib.Seq.{length-take-le, get_or-take, get_or-append-add}
use lib.Pow.{pow_pos, pow_mono}
use borrow.Author.Tests.{eqb-true, eqb-false, eq-eqb, ltb-true, ltb-false, lt-ltb, le-ltb, not-true}
use Rattle.rig.specs.Limits.{site_limit}
use Rattle.protocol.specs.Ask.{Ask}
use Rattle.protocol.specs.System.{System, Lawful}
use Rattle.model.specs.Tables.{at}
use Rattle.basics.specs.Helpers.{any}
use Rattle.model.specs.Sets.{member, meet, names}
use Rattle.model.specs.Setup.{kept_sets, all_name, meets_earlier, all_meet, unnested_earlier, all_minimal, setup_code}
use Rattle.model.specs.Priority.{key, comes_before}
use Rattle.basics.proofs.Basics.{by_bool, clash, and_split, all-at, all_same, any_at, any_of}
use Rattle.model.proofs.Tables.{at_same}
use Rattle.model.proofs.Sets.{no_bits, names-below}
use Rattle.model.proofs.Setup.{Accepted, meeting-setup, accepted-meeting}

-- document 01's priority, as the machine takes it
abbrev pub before : Ask → ℕ → Ask → ℕ → Bool
before a k b l = comes_before (key a.number k) (key b.number l)

-- a strict order, total on the asks of different sites
pub before-irrefl : (a : Ask) (k : ℕ) → before a k a k ≡ false
unfolding comes_before
before-irrefl a k = rw (eq-eqb a.number a.number refl) (le-ltb k k (omega arith))

-- as a fact of numbers
earlier : (s k n l : ℕ) → comes_before (key s k) (key n l) ≡ true → (s ≤ n) × (s ≡ n → k < l)
unfolding comes_before
earlier s k n l e =
    by_bool (eqb s n)
    (λ q. let a = eqb-true s n q in let b = ltb-true k l (rw q at e) in (omega arith, λ w. b))
    (λ q. let a = eqb-false s n q in let b = ltb-true s n (rw q at e) in (omega arith, λ w. absurd (a w)))

is-earlier : (s k n l : ℕ) → s ≤ n → (s ≡ n → k < l) → comes_before (key s k) (key n l) ≡ true
unfolding comes_before
is-earlier s k n l a b =
    by_bool (eqb s n)
    (λ q. rw q (lt-ltb k l (b (eqb-true s n q))))
    (λ q. let ne = eqb-false s n q in rw q (lt-ltb s n (omega arith)))

pub before-trans : (a : Ask) (x : ℕ) (b : Ask) (y : ℕ) (c : Ask) (z : ℕ) → before a x b y ≡ true → before b y c z ≡ true → before a x c z ≡ true
before-trans a x b y c z e f =
    let p = earlier a.number x b.number y e in
    let q = earlier b.number y c.number z f in
    let p0 = p.0 in
    let q0 = q.0 in
    is-earlier a.number x c.number z (omega arith) (λ w. let u = p.1 (omega arith) in let v = q.1 (omega arith) in omega arith)

pub before-total : (a : Ask) (x : ℕ) (b : Ask) (y : ℕ) → x ≢ y → before a x b y ≡ false → before b y a x ≡ true
unfolding comes_before
before-total a x b y ne e =
    by_bool (eqb a.number b.number)
    (λ q. let w = eqb-true a.number b.number q in let u = ltb-false x y (rw q at e) in is-earlier b.number y a.number x (omega arith) (λ v. omega arith))
    (λ q. let w = eqb-false a.number b.number q in let u = ltb-false a.number b.number (rw q at e) in is-earlier b.number y a.number x (omega arith) (λ v. absurd (w (omega arith))))

-- members of a set that names sites 1 to n only
pub member-within : (n s j : ℕ) → s < 2 ^ n → member s j ≡ true → (1 ≤ j) × (j ≤ n)
unfolding member
member-within n s zero h e = clash false e refl
member-within n s (suc i) h e =
    by_bool (ltb i n)
    (λ t. let u = ltb-true i n t in (omega arith, omega arith))
    (λ t. let u = ltb-false i n t in
    let v = pow_mono {i = n} {j = i} u in
    let w : s / 2 ^ i < 1 = (div-lt_iff_lt-mul (pow_pos i)).1 (omega arith) in
    let x = eqb-true (s / 2 ^ i % 2) 1 e in
    absurd (omega arith))

pub no-members : (j : ℕ) → member 0 j ≡ false
unfolding member
no-members zero = refl
no-members (suc i) = by_bool (member 0 (suc i)) (λ e. let w = member-within 0 0 (suc i) (omega arith) e in absurd (omega arith)) (λ e. e)

pub has_one : (n s : ℕ) → names n s ≡ true → (j : ℕ) × (member s j ≡ true)
unfolding names member
has_one n s e =
    by_bool (any (member s) n)
    (λ t. let w = any_at (member s) n t in (w.0, w.3))
    (λ t. absurd (eqb-false s 0 (not-true (eqb s 0) (and_split (not (eqb s 0)) (ltb s (2 ^ n)) e).0) (no_bits s n (names-below n s e)
    (λ i l. let f : member s (suc i) ≡ false = by_bool (member s (suc i)) (λ u. clash _ (any_of (member s) n (suc i) (omega arith) l u) t) (λ u. u) in
    let ne = eqb-false (s / 2 ^ i % 2) 1 f in omega arith))))

-- the family of n sites with the sets l
abbrev pub system_from : ℕ → List ℕ → System
system_from n l = record { size = n; sets = λ k j. member (at 0 l k) j; comes_before = before }

module _ (n : ℕ) (l : List ℕ) (a : Accepted n l) (past : (k : ℕ) → n < k → at 0 l k ≡ 0) where
  name-at : (k : ℕ) → 1 ≤ k → k ≤ n → names n (at 0 l k) ≡ true
  unfolding all_name
  name-at k b c = all-at _ n k a.name b c

  -- a site that has a member is one of 1 to n, and so is the member
  pub site_within : (k j : ℕ) → member (at 0 l k) j ≡ true → (1 ≤ k) × (k ≤ n)
  unfolding at
  site_within zero j e = clash _ e (no-members j)
  site_within (suc i) j e =
      by_bool (ltb n (suc i))
      (λ t. clash _ (rw (past (suc i) (ltb-true n (suc i) t)) at e) (no-members j))
      (λ t. let u = ltb-false n (suc i) t in (omega arith, u))

  pub tie-within : (k j : ℕ) → member (at 0 l k) j ≡ true → (1 ≤ j) × (j ≤ n)
  tie-within k j e =
      let w = site_within k j e in
      member-within n (at 0 l k) j (names-below n (at 0 l k) (name-at k w.0 w.1)) e

  meet-earlier : (k m : ℕ) → m < k → 1 ≤ m → k ≤ n → (j : ℕ) × (member (at 0 l k) j ≡ true) × (member (at 0 l m) j ≡ true)
  unfolding all_meet meets_earlier meet
  meet-earlier k m h b c =
      let e = all-at (meets_earlier n l) n k a.meet (omega arith) c in
      let f = all-at (λ i. meet n (at 0 l k) (at 0 l i)) (pred k) m e b (omega arith) in
      let g = any_at (λ i. member (at 0 l k) i && member (at 0 l m) i) n f in
      let p = and_split (member (at 0 l k) g.0) (member (at 0 l m) g.0) g.3 in
      (g.0, p.0, p.1)

  pub lawful : Lawful (system_from n l)
  lawful = record {
    site_in_range = site_within;
    member_in_range = tie-within;
    non_empty = λ k b c. has_one n (at 0 l k) (name-at k b c);
    meet = λ k m b c d e. by_bool (ltb m k)
        (λ t. meet-earlier k m (ltb-true m k t) d c)
        (λ t. by_bool (ltb k m)
        (λ u. let w = meet-earlier m k (ltb-true k m u) b e in (w.0, w.2, w.1))
        (λ u. let x = ltb-false m k t in let y = ltb-false k m u in
        let q : k ≡ m = omega arith in
        let w = has_one n (at 0 l k) (name-at k b c) in (w.0, w.1, ap (λ (x : ℕ). member (at 0 l x) w.0) (sym q) ∙ w.1)));
    irreflexive = before-irrefl;
    transitive = before-trans;
    total = before-total;
  }

-- the sets that a rig keeps
module _ (n : ℕ) (sets : List ℕ) (a : Accepted n sets) where
  kept_at : (k : ℕ) → 1 ≤ k → k ≤ n → at 0 (kept_sets n sets) k ≡ at 0 sets k
  unfolding kept_sets at
  kept_at zero b c = refl
  kept_at (suc i) b c =
      let h = a.high in let len = a.long in
      get_or-append (take n sets) (replicate (site_limit - n) 0) 0 i (rw (length-take-le n sets (omega arith)) (omega arith))
      ∙ get_or-take n sets i 0 (omega arith)

  pub kept-past : (k : ℕ) → n < k → at 0 (kept_sets n sets) k ≡ 0
  unfolding kept_sets at
  kept-past zero h = refl
  kept-past (suc i) h =
      let b = a.high in let len = a.long in
      let e : length (take n sets) + (i - n) ≡ i = rw (length-take-le n sets (omega arith)) (omega arith) in
      ap (λ (x : ℕ). get_or (take n sets ++ replicate (site_limit - n) 0) x 0) (sym e)
      ∙ get_or-append-add (take n sets) (replicate (site_limit - n) 0) (i - n) 0
      ∙ at_same 0 (site_limit - n) (suc (i - n))

  pub kept-accepted : Accepted n (kept_sets n sets)
  unfolding all_name all_meet meets_earlier kept_sets
  kept-accepted =
      record {
        long = let h = a.high in let len = a.long in rw (length-append, length-replicate, length-take-le n sets (omega arith)) (omega arith);
        low = a.low;
        high = a.high;
        name = all_same (λ k. names n (at 0 (kept_sets n sets) k)) (λ k. names n (at 0 sets k)) n (λ k b c. rw (kept_at k b c)) ∙ a.name;
        meet = all_same (meets_earlier n (kept_sets n sets)) (meets_earlier n sets) n (λ k b c. rw (kept_at k b c) (all_same _ _ (pred k) (λ m d e. rw (kept_at m d (omega arith))))) ∙ a.meet;
      }

  pub kept-unnested-at : (k : ℕ) → 1 ≤ k → k ≤ n → unnested_earlier n (kept_sets n sets) k ≡ unnested_earlier n sets k
  unfolding unnested_earlier
  kept-unnested-at k b c = rw (kept_at k b c) (all_same _ _ (pred k) (λ m d e. rw (kept_at m d (omega arith))))

  pub kept-minimal : all_minimal n (kept_sets n sets) ≡ all_minimal n sets
  unfolding all_minimal
  kept-minimal = all_same _ _ n kept-unnested-at

  -- "Entries past N are not read."
  pub kept-code : setup_code n (kept_sets n sets) ≡ setup_code n sets
  kept-code =
      meeting-setup n (kept_sets n sets) (accepted-meeting n (kept_sets n sets) kept-accepted)
      ∙ rw kept-minimal (sym (meeting-setup n sets (accepted-meeting n sets a)))
