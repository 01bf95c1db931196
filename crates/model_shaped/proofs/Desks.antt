-- One site's desk, taken out of shaped tables, and put back.
use Prim.Native.Nat.{ℕ, ◌+◌, ◌≤◌, ◌<◌}
use mathlib.Core.Path.{◌≡◌, refl}
use mathlib.Core.Logic.{◌≢◌, ⊎_elim}
use mathlib.Core.Bool.{true}
use mathlib.Core.List.{[]}
use native.Mathlib.Omega.{arith}
use lib.Dec.{eqb, leb}
use lib.ListN.{length}
use borrow.Author.Tests.{eqb-true, eqb-false, leb-true, le-leb}
use Rattle.basics.specs.Helpers.{all}
use Rattle.basics.proofs.Basics.{by_bool, and_split, or-either, all-at, all_of}
use Rattle.rig.specs.declared.Arbiter.{Arbiter}
use Rattle.rig.specs.declared.Desk.{Desk}
use Rattle.rig.specs.declared.Rig.{Rig}
use Rattle.rig.specs.Limits.{site_limit, event_limit, number_limit, SiteNumber}
use Rattle.model.specs.Tables.{at, put}
use Rattle.model.specs.Setup.{setup_code, resting_site, free_arbiter}
use Rattle.model.specs.State.{Tables, size_of, sets_of, in_range, site_of, arbiter_of, desk_of, with_desk, with_accepted}
use Rattle.model.specs.Shape.{is_number, set_shaped, mode_shaped, site_shaped, holder_shaped, arbiter_shaped, place_shaped, rig_shaped, own_shaped, heir_shaped, queued_shaped, everywhere, tables_shaped}
use Rattle.model_shaped.specs.Kept.{has_granted, all_granted}
use Rattle.model_shaped.proofs.Rows.{at-put-keeps, row_of, everywhere-put}
use Rattle.model_shaped.proofs.Fine.{Fine}

-- An arbiter that has granted

granted-low : (a : Arbiter) → has_granted a ≡ true → a.holder ≢ 0 → 1 ≤ a.grant
unfolding has_granted
granted-low a e ne = ⊎_elim (λ z. absurd (ne (eqb-true _ 0 z))) (λ z. leb-true 1 a.grant z) (or-either (eqb a.holder 0) _ e)

low-granted : (a : Arbiter) → (a.holder ≢ 0 → 1 ≤ a.grant) → has_granted a ≡ true
unfolding has_granted
low-granted a h = by_bool (eqb a.holder 0) (λ e. rw e) (λ e. rw (e, le-leb 1 a.grant (h (eqb-false _ 0 e))))

-- the tests of tables, one by one
pub record Tests (t : Tables) : Type 0 where
  pub setup : eqb (setup_code (size_of t) (sets_of t)) 0 ≡ true
  pub places : all (place_shaped t.rig) site_limit ≡ true
  pub held : everywhere (own_shaped (sets_of t)) t.held ≡ true
  pub heir : everywhere (heir_shaped (sets_of t)) t.heir ≡ true
  pub inquired : everywhere (own_shaped (sets_of t)) t.inquired ≡ true
  pub queued : everywhere (queued_shaped (sets_of t)) t.queued ≡ true

pub tests : (t : Tables) → tables_shaped t ≡ true → Tests t
unfolding tables_shaped rig_shaped
tests t e =
    let a = and_split (rig_shaped t.rig) _ e in
    let b = and_split (everywhere (own_shaped (sets_of t)) t.held) _ a.1 in
    let c = and_split (everywhere (heir_shaped (sets_of t)) t.heir) _ b.1 in
    let d = and_split (everywhere (own_shaped (sets_of t)) t.inquired) _ c.1 in
    let g = and_split (eqb (setup_code (size_of t) (sets_of t)) 0) _ a.0 in
    record { setup = g.0; places = (and_split (leb t.rig.accepted event_limit) _ g.1).1; held = b.0; heir = c.0; inquired = d.0; queued = d.1 }

-- what stands at place k
record Place (g : Rig) (k : ℕ) : Type 0 where
  set : set_shaped g.size k (at 0 g.sets k) ≡ true
  site : site_shaped g.size k (at resting_site g.sites k) ≡ true
  arbiter : arbiter_shaped g.size g.sets k (at free_arbiter g.arbiters k) ≡ true

place : (g : Rig) → all (place_shaped g) site_limit ≡ true → (k : ℕ) → SiteNumber k → Place g k
unfolding place_shaped
place g h k r =
    let a = and_split (set_shaped g.size k (at 0 g.sets k)) _ (all-at (place_shaped g) site_limit k h r.low r.high) in
    let b = and_split (site_shaped g.size k (at resting_site g.sites k)) _ a.1 in
    record { set = a.0; site = b.0; arbiter = b.1 }

-- The desk of site k

module _ (t : Tables) (h : Tests t) (k : ℕ) (i : in_range (size_of t) k ≡ true) where
  pub desk-fine : SiteNumber k → has_granted (arbiter_of t k) ≡ true → length (at [] t.held k) ≡ site_limit → Fine (size_of t) (sets_of t) k (desk_of t k)
  unfolding desk_of site_shaped arbiter_shaped
  desk-fine r g long =
      let c = place t.rig h.places k r in
      let a = and_split (is_number (arbiter_of t k).grant) _ c.arbiter in
      record {
        size = refl;
        number = refl;
        members = refl;
        site = λ z. (and_split (is_number (site_of t k).clock) (mode_shaped (site_of t k).mode) (rw i at c.site)).1;
        arbiter = record { shaped = (and_split (holder_shaped (sets_of t) k (arbiter_of t k)) _ a.1).0; granted = granted-low (arbiter_of t k) g };
        entries = record { held = row_of _ t.held h.held k r; heir = row_of _ t.heir h.heir k r; inquired = row_of _ t.inquired h.inquired k r; long = long };
        queue = row_of _ t.queued h.queued k r;
      }

  module _ (d : Desk) (f : Fine (size_of t) (sets_of t) k d) where
    site-shaped : d.site.clock ≤ number_limit → site_shaped (size_of t) k d.site ≡ true
    unfolding site_shaped is_number
    site-shaped c = rw (i, le-leb d.site.clock number_limit c, f.site c)

    arbiter-shaped : d.arbiter.grant ≤ number_limit → arbiter_shaped (size_of t) (sets_of t) k d.arbiter ≡ true
    unfolding arbiter_shaped is_number
    arbiter-shaped c = rw (i, le-leb d.arbiter.grant number_limit c, f.arbiter.shaped)

    -- the tables with the desk d, and one event more accepted
    abbrev next : Tables
    next = with_accepted (with_desk t k d) (t.rig.accepted + 1)

    places-shaped : d.site.clock ≤ number_limit → d.arbiter.grant ≤ number_limit → all (place_shaped next.rig) site_limit ≡ true
    unfolding place_shaped with_accepted with_desk
    places-shaped clock grant = all_of _ site_limit (λ j lo hi.
        let c = place t.rig h.places j (record { low = lo; high = hi }) in
        rw (
          c.set,
          at-put-keeps (λ x. site_shaped (size_of t) j x ≡ true) resting_site t.rig.sites k d.site j c.site (λ e. rw e (site-shaped clock)),
          at-put-keeps (λ x. arbiter_shaped (size_of t) (sets_of t) j x ≡ true) free_arbiter t.rig.arbiters k d.arbiter j c.arbiter (λ e. rw e (arbiter-shaped grant)),
        ))

    pub tables-shaped : t.rig.accepted < event_limit → d.site.clock ≤ number_limit → d.arbiter.grant ≤ number_limit → tables_shaped next ≡ true
    unfolding tables_shaped rig_shaped with_accepted with_desk
    tables-shaped few clock grant =
        rw (
          h.setup,
          le-leb (t.rig.accepted + 1) event_limit (omega arith),
          places-shaped clock grant,
          everywhere-put (own_shaped (sets_of t)) t.held k d.held h.held f.entries.held,
          everywhere-put (heir_shaped (sets_of t)) t.heir k d.heir h.heir f.entries.heir,
          everywhere-put (own_shaped (sets_of t)) t.inquired k d.inquired h.inquired f.entries.inquired,
          everywhere-put (queued_shaped (sets_of t)) t.queued k d.queued h.queued f.queue,
        )

    pub all-granted : all_granted t.rig ≡ true → all_granted (with_desk t k d).rig ≡ true
    unfolding all_granted with_desk
    all-granted g = all_of _ site_limit (λ j lo hi.
        at-put-keeps (λ x. has_granted x ≡ true) free_arbiter t.rig.arbiters k d.arbiter j (all-at (λ a. has_granted (arbiter_of t a)) site_limit j g lo hi)
        (λ e. low-granted d.arbiter f.arbiter.granted))

    pub rows-kept : ((j : ℕ) → SiteNumber j → length (at [] t.held j) ≡ site_limit) → (j : ℕ) → SiteNumber j → length (at [] (put t.held k d.held) j) ≡ site_limit
    rows-kept r j q = at-put-keeps (λ x. length x ≡ site_limit) [] t.held k d.held j (r j q) (λ e. f.entries.long)
