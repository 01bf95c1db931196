-- What the test of a state's shape says of its entries: their bounds, and where they are 0.
use Prim.Native.Nat.{ℕ, ◌≤◌, ◌<◌}
use mathlib.Core.Bool.{Bool, true, false}
use mathlib.Core.List.{List}
use mathlib.Core.Logic.{◌≢◌, ⊎_elim}
use mathlib.Core.Path.{◌≡◌, refl}
use native.Mathlib.Omega.{arith}
use lib.Dec.{eqb, leb}
use borrow.Author.Tests.{eqb-true, eqb-false, eq-eqb, ne_eqb, leb-true, lt-leb}
use Rattle.basics.specs.Helpers.{all}
use Rattle.basics.proofs.Basics.{by_bool, clash, and_split, and_second, or-either, all-at}
use Rattle.rig.specs.declared.Site.{Site}
use Rattle.rig.specs.declared.Arbiter.{Arbiter}
use Rattle.rig.specs.declared.Mode.{Mode}
use Rattle.rig.specs.declared.Mode.TheVariants.{Rest, Waiting, Inside}
use Rattle.rig.specs.Limits.{site_limit, number_limit, SiteNumber}
use Rattle.model.specs.Tables.{at, cell}
use Rattle.model.specs.Setup.{resting_site, free_arbiter}
use Rattle.model.specs.State.{Tables, Stored, size_of, sets_of, in_range, has_member, is_resting, seq_in, site_of, arbiter_of}
use Rattle.model.specs.Shape.{is_number, is_given, set_shaped, mode_shaped, site_blank, site_shaped, holder_shaped, arbiter_shaped, rig_shaped, place_shaped, entry_shaped, own_shaped, heir_shaped, queued_shaped, everywhere, tables_shaped, well_shaped}
use Rattle.model.proofs.Shaped.{Shaped, shaped, ties, in-range}

number : (n : ℕ) → is_number n ≡ true → n ≤ number_limit
unfolding is_number
number n e = leb-true n number_limit e

-- an entry of a table that passes a test everywhere
entry : (p : ℕ → ℕ → ℕ → Bool) (table : List (List ℕ)) → everywhere p table ≡ true → (a b : ℕ) → SiteNumber a → SiteNumber b → p a b (cell table a b) ≡ true
unfolding everywhere
entry p table e a b i j =
    all-at (λ y. p a y (cell table a y)) site_limit b
    (all-at (λ x. all (λ y. p x y (cell table x y)) site_limit) site_limit a e i.low i.high) j.low j.high

-- an entry is a number, and 0 where there is no tie
tied-number : (tie : Bool) (n : ℕ) → entry_shaped tie n ≡ true → n ≤ number_limit
unfolding entry_shaped
tied-number true n e = number n e
tied-number false n e = let z = eqb-true n 0 e in omega arith

untied-zero : (tie : Bool) (n : ℕ) → entry_shaped tie n ≡ true → tie ≡ false → n ≡ 0
unfolding entry_shaped
untied-zero tie n e f = eqb-true n 0 (rw f at e)

-- a mode's sequence number
mode-number : (m : Mode) → mode_shaped m ≡ true → seq_in m ≤ number_limit
unfolding mode_shaped is_given
mode-number Rest e = omega arith
mode-number (Waiting s f) e = number s (and_split (leb 1 s) (is_number s) e).1
mode-number Inside e = omega arith

-- a blank site, and an arbiter without numbers
resting : (m : Mode) → is_resting m ≡ true → m ≡ Rest
resting Rest e = refl
resting (Waiting s f) e = clash false e refl
resting Inside e = clash false e refl

blank-site : (x : Site) → site_blank x ≡ true → x ≡ resting_site
unfolding site_blank
blank-site x e =
    let b = and_split (eqb x.clock 0) (is_resting x.mode) e in
    site-of x.mode x.clock (resting x.mode b.1) (eqb-true x.clock 0 b.0)
  where
    site-of : (m : Mode) (c : ℕ) → m ≡ Rest → c ≡ 0 → ◌≡◌ {A = Site} (record { mode = m; clock = c }) resting_site
    site-of m c p q = rw (p, q)

free-arbiter : (g o q : ℕ) → g ≡ 0 → o ≡ 0 → q ≡ 0 → ◌≡◌ {A = Arbiter} (record { grant = g; holder = o; seq = q }) free_arbiter
free-arbiter g o q x y z = rw (x, y, z)

module _ (s : Stored) (w : well_shaped s ≡ true) where
  abbrev t : Tables
  t = s.tables

  abbrev h : Shaped s
  h = shaped s w

  -- the tests of the tables
  pub record FourTables : Type 0 where
    pub held : everywhere (own_shaped (sets_of t)) t.held ≡ true
    pub heir : everywhere (heir_shaped (sets_of t)) t.heir ≡ true
    pub inquired : everywhere (own_shaped (sets_of t)) t.inquired ≡ true
    pub queued : everywhere (queued_shaped (sets_of t)) t.queued ≡ true

  four : FourTables
  unfolding well_shaped tables_shaped
  four =
      let a = (and_split (tables_shaped t) _ (and_split (leb s.count _) _ w).1).0 in
      let b = (and_split (rig_shaped t.rig) _ a).1 in
      let c = and_split (everywhere (own_shaped (sets_of t)) t.held) _ b in
      let d = and_split (everywhere (heir_shaped (sets_of t)) t.heir) _ c.1 in
      let e = and_split (everywhere (own_shaped (sets_of t)) t.inquired) _ d.1 in
      record { held = c.0; heir = d.0; inquired = e.0; queued = e.1 }

  -- A row of a table that a site has, and one of the queues.
  module _ (k j : ℕ) (a : SiteNumber k) (b : SiteNumber j) where
    pub held_small : cell t.held k j ≤ number_limit
    unfolding own_shaped
    held_small = tied-number (has_member (sets_of t) k j) _ (entry (own_shaped (sets_of t)) t.held four.held k j a b)

    pub inquired-small : cell t.inquired k j ≤ number_limit
    unfolding own_shaped
    inquired-small = tied-number (has_member (sets_of t) k j) _ (entry (own_shaped (sets_of t)) t.inquired four.inquired k j a b)

    pub queued-small : cell t.queued j k ≤ number_limit
    unfolding queued_shaped
    queued-small = tied-number (has_member (sets_of t) k j) _ (entry (queued_shaped (sets_of t)) t.queued four.queued j k b a)

    pub heir-small : cell t.heir k j ≤ site_limit
    unfolding heir_shaped
    heir-small =
        let x = cell t.heir k j in
        ⊎_elim
        (λ z. let y = eqb-true x 0 z in omega arith)
        (λ z. let i = ties s h x j (and_split (has_member (sets_of t) k j) (has_member (sets_of t) x j) z).1 in let y = h.sets.high in omega (arith, i.1))
        (or-either (eqb x 0) _ (entry (heir_shaped (sets_of t)) t.heir four.heir k j a b))

    -- 0 where k does not have j in its set
    module _ (no : has_member (sets_of t) k j ≡ false) where
      pub held-zero : cell t.held k j ≡ 0
      unfolding own_shaped
      held-zero = untied-zero (has_member (sets_of t) k j) _ (entry (own_shaped (sets_of t)) t.held four.held k j a b) no

      pub inquired-zero : cell t.inquired k j ≡ 0
      unfolding own_shaped
      inquired-zero = untied-zero (has_member (sets_of t) k j) _ (entry (own_shaped (sets_of t)) t.inquired four.inquired k j a b) no

      pub queued-zero : cell t.queued j k ≡ 0
      unfolding queued_shaped
      queued-zero = untied-zero (has_member (sets_of t) k j) _ (entry (queued_shaped (sets_of t)) t.queued four.queued j k b a) no

      pub heir-zero : cell t.heir k j ≡ 0
      unfolding heir_shaped
      heir-zero =
          let x = cell t.heir k j in
          ⊎_elim (λ z. eqb-true x 0 z) (λ z. clash (has_member (sets_of t) k j) (and_split (has_member (sets_of t) k j) _ z).0 no)
          (or-either (eqb x 0) _ (entry (heir_shaped (sets_of t)) t.heir four.heir k j a b))

  -- A site and an arbiter.
  module _ (k : ℕ) (a : SiteNumber k) where
    site-test : site_shaped (size_of t) k (site_of t k) ≡ true
    unfolding place_shaped
    site-test = (and_split (site_shaped (size_of t) k (site_of t k)) _ (and_split (set_shaped (size_of t) k (at 0 (sets_of t) k)) _ (h.places k a)).1).0

    arbiter-test : arbiter_shaped (size_of t) (sets_of t) k (arbiter_of t k) ≡ true
    unfolding place_shaped
    arbiter-test = (and_split (site_shaped (size_of t) k (site_of t k)) _ (and_split (set_shaped (size_of t) k (at 0 (sets_of t) k)) _ (h.places k a)).1).1

    pub site-small : k ≤ size_of t → ((site_of t k).clock ≤ number_limit) × (seq_in (site_of t k).mode ≤ number_limit)
    unfolding site_shaped
    site-small l =
        let e = rw (in-range (size_of t) k a.low l) at site-test in
        let b = and_split (is_number (site_of t k).clock) (mode_shaped (site_of t k).mode) e in
        (number _ b.0, mode-number (site_of t k).mode b.1)

    pub site-past : size_of t < k → site_of t k ≡ resting_site
    unfolding site_shaped
    site-past l =
        let out : in_range (size_of t) k ≡ false = and_second (leb 1 k) (leb k (size_of t)) (lt-leb k (size_of t) l) in
        blank-site (site_of t k) (rw out at site-test)

    holder-test : holder_shaped (sets_of t) k (arbiter_of t k) ≡ true
    unfolding arbiter_shaped
    holder-test = (and_split (holder_shaped (sets_of t) k (arbiter_of t k)) _ (and_split (is_number (arbiter_of t k).grant) _ arbiter-test).1).0

    pub grant-small : (arbiter_of t k).grant ≤ number_limit
    unfolding arbiter_shaped
    grant-small = number _ (and_split (is_number (arbiter_of t k).grant) _ arbiter-test).0

    pub none-zero : (arbiter_of t k).holder ≡ 0 → (arbiter_of t k).seq ≡ 0
    unfolding holder_shaped
    none-zero z = eqb-true (arbiter_of t k).seq 0 (rw (eq-eqb (arbiter_of t k).holder 0 z) at holder-test)

    holder-tied : (arbiter_of t k).holder ≢ 0 → (has_member (sets_of t) (arbiter_of t k).holder k ≡ true) × (is_given (arbiter_of t k).seq ≡ true)
    unfolding holder_shaped
    holder-tied z = and_split (has_member (sets_of t) (arbiter_of t k).holder k) (is_given (arbiter_of t k).seq) (rw (ne_eqb (arbiter_of t k).holder 0 z) at holder-test)

    pub holder-small : ((arbiter_of t k).holder ≤ site_limit) × ((arbiter_of t k).seq ≤ number_limit)
    unfolding is_given
    holder-small =
        by_bool (eqb (arbiter_of t k).holder 0)
        (λ e. let z = eqb-true _ 0 e in let y = none-zero z in (omega arith, omega arith))
        (λ e. let b = holder-tied (eqb-false _ 0 e) in
        let i = ties s h (arbiter_of t k).holder k b.0 in let y = h.sets.high in
        (omega (arith, i.1), number _ (and_split (leb 1 (arbiter_of t k).seq) _ b.1).1))

    pub arbiter-past : size_of t < k → arbiter_of t k ≡ free_arbiter
    unfolding arbiter_shaped
    arbiter-past l =
        let a = arbiter_of t k in
        let out : in_range (size_of t) k ≡ false = and_second (leb 1 k) (leb k (size_of t)) (lt-leb k (size_of t) l) in
        let c = (and_split (holder_shaped (sets_of t) k a) _ (and_split (is_number a.grant) _ arbiter-test).1).1 in
        let g = eqb-true a.grant 0 (rw out at c) in
        let none : a.holder ≡ 0 =
        by_bool (eqb a.holder 0) (λ e. eqb-true _ 0 e)
        (λ e. let i = ties s h a.holder k (holder-tied (eqb-false _ 0 e)).0 in absurd (omega (arith, i.3))) in
        free-arbiter a.grant a.holder a.seq g none (none-zero none)
