-- What the test of a state's shape says of it.
use Prim.Native.Nat.{ℕ, ◌≤◌, ◌<◌}
use mathlib.Core.Path.{◌≡◌, refl}
use mathlib.Core.Logic.{◌≢◌, ⊎_elim}
use mathlib.Core.Bool.{Bool, true, false}
use mathlib.Core.List.{List}
use native.Mathlib.Omega.{arith}
use lib.Dec.{eqb, leb}
use borrow.Author.Tests.{eqb-true, eqb-false, ne_eqb, leb-true, leb-false, le-leb}
use Rattle.basics.specs.Helpers.{all}
use Rattle.basics.proofs.Basics.{by_bool, clash, and_split, or-either, all-at}
use Rattle.rig.specs.declared.Message.{Message}
use Rattle.rig.specs.Messages.{REQUEST, REPLY, RELEASE, INQUIRE, FAIL, YIELD, TRANSFER}
use Rattle.rig.specs.Limits.{site_limit, message_limit, event_limit, number_limit, SiteNumber}
use Rattle.model.specs.Tables.{at, cell}
use Rattle.model.specs.Setup.{all_minimal, setup_code}
use Rattle.model.specs.State.{Tables, Stored, under_way, size_of, sets_of, in_range, has_member, site_of, arbiter_of, held_of, queued_of}
use Rattle.model.specs.Shape.{is_number, set_shaped, mode_shaped, site_shaped, arbiter_shaped, place_shaped, rig_shaped, entry_shaped, own_shaped, heir_shaped, queued_shaped, everywhere, number_shaped, plain_shaped, release_shaped, about_shaped, message_shaped, messages_shaped, tables_shaped, well_shaped}
use Rattle.model.proofs.Tables.{at-past}
use Rattle.model.proofs.Setup.{Accepted, accepts, setup-minimal}
use Rattle.model.proofs.Lawful.{site_within, tie-within}

-- by a message's kind
pub by_kind {ℓ} : {C : Type ℓ} (k : ℕ) → (k ≡ REQUEST → C) → (k ≡ REPLY → C) → (k ≡ RELEASE → C) → (k ≡ INQUIRE → C) → (k ≡ FAIL → C) → (k ≡ YIELD → C) → (k ≡ TRANSFER → C)
    → (k ≢ REQUEST → k ≢ REPLY → k ≢ RELEASE → k ≢ INQUIRE → k ≢ FAIL → k ≢ YIELD → k ≢ TRANSFER → C) → C
by_kind k c1 c2 c3 c4 c5 c6 c7 c0 =
    by_bool (eqb k REQUEST) (λ e. c1 (eqb-true k _ e))
    (λ n1. by_bool (eqb k REPLY) (λ e. c2 (eqb-true k _ e))
    (λ n2. by_bool (eqb k RELEASE) (λ e. c3 (eqb-true k _ e))
    (λ n3. by_bool (eqb k INQUIRE) (λ e. c4 (eqb-true k _ e))
    (λ n4. by_bool (eqb k FAIL) (λ e. c5 (eqb-true k _ e))
    (λ n5. by_bool (eqb k YIELD) (λ e. c6 (eqb-true k _ e))
    (λ n6. by_bool (eqb k TRANSFER) (λ e. c7 (eqb-true k _ e))
    (λ n7. c0 (eqb-false k _ n1) (eqb-false k _ n2) (eqb-false k _ n3) (eqb-false k _ n4) (eqb-false k _ n5) (eqb-false k _ n6) (eqb-false k _ n7))))))))

pub record Shaped (s : Stored) : Type 0 where
  pub few : s.count ≤ message_limit
  pub sets : Accepted (size_of s.tables) (sets_of s.tables)
  pub minimal : all_minimal (size_of s.tables) (sets_of s.tables) ≡ true
  pub past : (k : ℕ) → size_of s.tables < k → at 0 (sets_of s.tables) k ≡ 0
  pub accepted : s.tables.rig.accepted ≤ event_limit
  pub places : (k : ℕ) → SiteNumber k → place_shaped s.tables.rig k ≡ true
  pub held : everywhere (own_shaped (sets_of s.tables)) s.tables.held ≡ true
  pub queued : everywhere (queued_shaped (sets_of s.tables)) s.tables.queued ≡ true
  pub messages : messages_shaped (size_of s.tables) (sets_of s.tables) (under_way s) ≡ true

-- the set of a site past N
none-past : (t : Tables) → Accepted (size_of t) (sets_of t) → ((k : ℕ) → SiteNumber k → place_shaped t.rig k ≡ true) → (k : ℕ) → size_of t < k → at 0 (sets_of t) k ≡ 0
unfolding place_shaped set_shaped
none-past t a p k h = by_bool (leb k site_limit)
    (λ u. ⊎_elim
    (λ v. let w = leb-true k (size_of t) v in absurd (omega arith))
    (λ v. eqb-true _ 0 v)
    (or-either (leb k (size_of t)) (eqb (at 0 (sets_of t) k) 0) (and_split (set_shaped (size_of t) k (at 0 (sets_of t) k)) _ (p k (record { low = omega arith; high = leb-true k site_limit u }))).0))
    (λ u. at-past 0 (sets_of t) k (omega (arith, a.long, leb-false k site_limit u)))

pub shaped : (s : Stored) → well_shaped s ≡ true → Shaped s
unfolding well_shaped tables_shaped rig_shaped
shaped s e =
    let t = s.tables in
    let a = and_split (leb s.count message_limit) _ e in
    let b = and_split (tables_shaped t) _ a.1 in
    let c = and_split (rig_shaped t.rig) _ b.0 in
    let d = and_split (eqb (setup_code (size_of t) (sets_of t)) 0) _ c.0 in
    let f = and_split (leb t.rig.accepted event_limit) _ d.1 in
    let g = and_split (everywhere (own_shaped (sets_of t)) t.held) _ c.1 in
    let h = and_split (everywhere (heir_shaped (sets_of t)) t.heir) _ g.1 in
    let acc = accepts (size_of t) (sets_of t) (eqb-true _ 0 d.0) in
    let places : (k : ℕ) → SiteNumber k → place_shaped t.rig k ≡ true = λ k r. all-at (place_shaped t.rig) site_limit k f.1 r.low r.high in
    record {
      few = leb-true s.count message_limit a.0;
      sets = acc;
      minimal = setup-minimal (size_of t) (sets_of t) (eqb-true _ 0 d.0);
      past = none-past t acc places;
      accepted = leb-true t.rig.accepted event_limit f.0;
      places = places;
      held = g.0;
      queued = (and_split (everywhere (own_shaped (sets_of t)) t.inquired) _ h.1).1;
      messages = b.1;
    }

pub within : (n k : ℕ) → in_range n k ≡ true → (1 ≤ k) × (k ≤ n)
within n k e = let w = and_split (leb 1 k) (leb k n) e in (leb-true 1 k w.0, leb-true k n w.1)

pub in-range : (n k : ℕ) → 1 ≤ k → k ≤ n → in_range n k ≡ true
in-range n k a b = rw (le-leb 1 k a, le-leb k n b)

number : (n : ℕ) → is_number n ≡ true → n ≤ number_limit
unfolding is_number
number n e = leb-true n number_limit e

-- an entry of a table whose entries are numbers, and 0 where there is no tie
entry-number : (p : ℕ → ℕ → ℕ → Bool) (tie : ℕ → ℕ → Bool) (table : List (List ℕ)) → ((a b n : ℕ) → p a b n ≡ entry_shaped (tie a b) n) → everywhere p table ≡ true
    → (a b : ℕ) → SiteNumber a → SiteNumber b → cell table a b ≤ number_limit
unfolding everywhere entry_shaped
entry-number p tie table same e a b i j =
    let row = all-at (λ x. all (λ y. p x y (cell table x y)) site_limit) site_limit a e i.low i.high in
    let entry = all-at (λ y. p a y (cell table a y)) site_limit b row j.low j.high in
    by_bool (tie a b)
    (λ c. number _ (rw (same a b (cell table a b), c) at entry))
    (λ c. let z = eqb-true (cell table a b) 0 (rw (same a b (cell table a b), c) at entry) in omega arith)

module _ (s : Stored) (h : Shaped s) where
  abbrev t : Tables
  t = s.tables

  -- a site and a member of its set are among 1 to N
  pub ties : (k j : ℕ) → has_member (sets_of t) k j ≡ true → (1 ≤ k) × (k ≤ size_of t) × (1 ≤ j) × (j ≤ size_of t)
  ties k j e =
      let a = site_within (size_of t) (sets_of t) h.sets h.past k j e in
      let b = tie-within (size_of t) (sets_of t) h.sets h.past k j e in
      (a.0, a.1, b.0, b.1)

  pub listed : (k : ℕ) → in_range (size_of t) k ≡ true → SiteNumber k
  listed k e = let r = within (size_of t) k e in let z = h.sets.high in record { low = r.0; high = omega (arith, r.1) }

  pub tied-listed : (k j : ℕ) → has_member (sets_of t) k j ≡ true → SiteNumber k × SiteNumber j
  tied-listed k j e =
      let w = ties k j e in
      let z = h.sets.high in
      (record { low = w.0; high = omega (arith, w.1) }, record { low = w.2; high = omega (arith, w.3) })

  -- the numbers of a site and of its arbiter
  pub clock : (k : ℕ) → in_range (size_of t) k ≡ true → (site_of t k).clock ≤ number_limit
  unfolding place_shaped site_shaped
  clock k e =
      let a = (and_split (set_shaped (size_of t) k (at 0 (sets_of t) k)) _ (h.places k (listed k e))).1 in
      let b = (and_split (site_shaped (size_of t) k (site_of t k)) _ a).0 in
      number _ (and_split (is_number (site_of t k).clock) (mode_shaped (site_of t k).mode) (rw e at b)).0

  pub grant : (j : ℕ) → in_range (size_of t) j ≡ true → (arbiter_of t j).grant ≤ number_limit
  unfolding place_shaped arbiter_shaped
  grant j e =
      let a = (and_split (set_shaped (size_of t) j (at 0 (sets_of t) j)) _ (h.places j (listed j e))).1 in
      let b = (and_split (site_shaped (size_of t) j (site_of t j)) (arbiter_shaped (size_of t) (sets_of t) j (arbiter_of t j)) a).1 in
      number _ (and_split (is_number (arbiter_of t j).grant) _ b).0

  pub held_number : (k j : ℕ) → in_range (size_of t) k ≡ true → SiteNumber j → held_of t k j ≤ number_limit
  unfolding own_shaped
  held_number k j e i = entry-number (own_shaped (sets_of t)) (has_member (sets_of t)) t.held (λ a b n. refl) h.held k j (listed k e) i

  pub queued-number : (j k : ℕ) → in_range (size_of t) j ≡ true → SiteNumber k → queued_of t j k ≤ number_limit
  unfolding queued_shaped
  queued-number j k e i = entry-number (queued_shaped (sets_of t)) (λ a b. has_member (sets_of t) b a) t.queued (λ a b n. refl) h.queued j k (listed j e) i

  -- A message under way.
  module _ (m : Message) (e : message_shaped (size_of t) (sets_of t) m ≡ true) where
    pub ends : SiteNumber m.from × SiteNumber m.to × (about_shaped (sets_of t) m ≡ true)
    unfolding message_shaped
    ends =
        let a = and_split (in_range (size_of t) m.from) _ e in
        let b = and_split (in_range (size_of t) m.to) _ a.1 in
        let c = and_split (number_shaped m) (about_shaped (sets_of t) m) b.1 in
        (listed m.from a.0, listed m.to b.0, c.1)

    pub about-arbiter : m.kind ≡ REPLY → SiteNumber m.about
    unfolding about_shaped
    about-arbiter k = (tied-listed m.to m.about (rw k at ends.2)).1

    -- one that is about no site
    plain-about : (k j : ℕ) → plain_shaped (sets_of t) m.about k j ≡ true → m.about ≤ site_limit
    unfolding plain_shaped
    plain-about k j a = let z = eqb-true m.about 0 (and_split (eqb m.about 0) _ a).0 in omega arith

    pub about-high : m.about ≤ site_limit
    unfolding about_shaped release_shaped
    about-high =
        let a = ends.2 in
        by_kind m.kind
        (λ k. plain-about m.from m.to (rw k at a))
        (λ k. (tied-listed m.to m.about (rw k at a)).1.high)
        (λ k. ⊎_elim
        (λ z. let y = eqb-true m.about 0 z in omega arith)
        (λ z. (tied-listed m.about m.to z).0.high)
        (or-either (eqb m.about 0) (has_member (sets_of t) m.about m.to) (and_split (has_member (sets_of t) m.from m.to) _ (rw k at a)).1))
        (λ k. plain-about m.to m.from (rw k at a))
        (λ k. plain-about m.to m.from (rw k at a))
        (λ k. plain-about m.from m.to (rw k at a))
        (λ k. (tied-listed m.about m.from (and_split (has_member (sets_of t) m.to m.from) _ (rw k at a)).1).0.high)
        (λ n1 n2 n3 n4 n5 n6 n7. clash false (rw (ne_eqb _ _ n1, ne_eqb _ _ n2, ne_eqb _ _ n3, ne_eqb _ _ n4, ne_eqb _ _ n5, ne_eqb _ _ n6, ne_eqb _ _ n7) at a) refl)
