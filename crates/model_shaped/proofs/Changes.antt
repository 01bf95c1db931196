-- A desk that changes in one of its parts, and what its site sends.
use Prim.Native.Nat.{ℕ, ◌≤◌}
use mathlib.Core.Path.{◌≡◌, refl}
use mathlib.Core.Logic.{◌≢◌}
use mathlib.Core.Bool.{true}
use mathlib.Core.List.{List}
use native.Mathlib.Omega.{arith}
use borrow.Author.Tests.{ne_eqb}
use Rattle.rig.specs.declared.Arbiter.{Arbiter}
use Rattle.rig.specs.declared.Desk.{Desk}
use Rattle.rig.specs.declared.Message.{Message}
use Rattle.rig.specs.declared.Site.{Site}
use Rattle.rig.specs.Limits.{number_limit, SiteNumber}
use Rattle.model.specs.State.{has_member}
use Rattle.model.specs.Desk.{has, queued_at, with_site, with_arbiter, with_entries}
use Rattle.model.specs.Shape.{holder_shaped, queued_shaped}
use Rattle.model_shaped.proofs.Rows.{Row}
use Rattle.model_shaped.proofs.Fine.{given, entry-tied, entry-small, Here, Entries, Permission, SiteFine, Fine, Passes}

module _ {n : ℕ} {sets : List ℕ} {b : ℕ} where
  -- one part is another

  pub with-site : (d : Desk) → Fine n sets b d → (s : Site) → SiteFine s → Fine n sets b (with_site d s)
  with-site d f s h = record { size = f.size; number = f.number; members = f.members; site = h; arbiter = f.arbiter; entries = f.entries; queue = f.queue }

  pub with-arbiter : (d : Desk) → Fine n sets b d → (a : Arbiter) → Permission n sets b a → (q : List ℕ) → Row (queued_shaped sets b) q → Fine n sets b (with_arbiter d a q)
  with-arbiter d f a h q r = record { size = f.size; number = f.number; members = f.members; site = f.site; arbiter = h; entries = f.entries; queue = r }

  pub with_entries_lem : (d : Desk) → Fine n sets b d → (he hr iq : List ℕ) → Entries n sets b he hr iq → Fine n sets b (with_entries d he hr iq)
  with_entries_lem d f he hr iq h = record { size = f.size; number = f.number; members = f.members; site = f.site; arbiter = f.arbiter; entries = h; queue = f.queue }

  -- what a desk has

  module _ (d : Desk) (f : Fine n sets b d) where
    pub sent-by : (m : ℕ → Message) → Passes n sets (m b) → Passes n sets (m d.number)
    sent-by m h = rw f.number h

    pub member_of : (j : ℕ) → has d j ≡ true → has_member sets b j ≡ true
    member_of j e = rw f.members at e

    pub queued-tied : (k : ℕ) → SiteNumber k → queued_at d k ≢ 0 → has_member sets k b ≡ true
    unfolding queued_shaped
    queued-tied k r ne = entry-tied _ _ (f.queue k r) ne

    pub queued-small : (k : ℕ) → SiteNumber k → queued_at d k ≤ number_limit
    unfolding queued_shaped
    queued-small k r = entry-small _ _ (f.queue k r)

  -- the permission, held and free

  pub held_by_lem : Here n sets b → (g k x : ℕ) → 1 ≤ g → has_member sets k b ≡ true → 1 ≤ x → x ≤ number_limit → Permission n sets b (record { grant = g; holder = k; seq = x })
  unfolding holder_shaped
  held_by_lem p g k x l e a h =
      let w = p.ties k b e in
      record { shaped = rw (ne_eqb k 0 (λ z. omega (arith, z, w.0)), e, given x a h); granted = λ z. l }

  pub free_of : (g : ℕ) → Permission n sets b (record { grant = g; holder = 0; seq = 0 })
  unfolding holder_shaped
  free_of g = record { shaped = refl; granted = λ z. absurd (z refl) }

-- a site or member of a set is listed
pub site-listed : {n : ℕ} {sets : List ℕ} {b : ℕ} → Here n sets b → (k j : ℕ) → has_member sets k j ≡ true → SiteNumber k
site-listed p k j e = let w = p.ties k j e in record { low = w.0; high = omega (arith, w.1, p.small) }

pub member-listed : {n : ℕ} {sets : List ℕ} {b : ℕ} → Here n sets b → (k j : ℕ) → has_member sets k j ≡ true → SiteNumber j
member-listed p k j e = let w = p.ties k j e in record { low = w.2; high = omega (arith, w.3, p.small) }
