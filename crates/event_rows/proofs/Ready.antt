-- What a well-shaped state gives an event at its site.
use Prim.Native.Nat.{ℕ, ◌≤◌}
use mathlib.Core.Path.{◌≡◌, sym}
use mathlib.Core.Bool.{true}
use mathlib.Core.List.{List, map}
use mathlib.Core.Option.{some}
use lib.ListN.{get_or, take}
use Rattle.basics.specs.Helpers.{first}
use Rattle.basics.proofs.Lists.{take-map}
use Rattle.rig.specs.declared.Rig.{Rig}
use Rattle.rig.specs.declared.Desk.{Desk}
use Rattle.rig.specs.declared.Message.{Message}
use Rattle.rig.specs.Limits.{site_limit, event_limit}
use Rattle.rig.specs.Messages.{NamesSites}
use Rattle.model.specs.Tables.{cell}
use Rattle.model.specs.Setup.{resting_site, free_arbiter}
use Rattle.model.specs.State.{under_way, in_range, tables, desk_of}
use Rattle.model.specs.Deliver.{between}
use Rattle.model.specs.Shape.{well_shaped}
use Rattle.model.proofs.Tables.{at_read}
use Rattle.model.proofs.Shaped.{Shaped, shaped, within, clock, grant, held_number, ends, about-arbiter, about-high}
use Rattle.model.proofs.Delivered.{first-shaped}
use Rattle.list_rows.specs.Rows.{message_of, ZeroPast}
use Rattle.list_rows.specs.State.{stored}
use Rattle.event_desks.specs.Parts.{desk_at}
use Rattle.event_storing.specs.Leaves.{messages_in}
use Rattle.event_storing.specs.Needs.{NumbersInRange, SiteReady}
use Rattle.event_sites.specs.Places.{place_of}

-- what is under way, of a list in rows
pub under-way : (n : ℕ) (rows : List (List ℕ)) → messages_in n rows ≡ take n (map message_of rows)
under-way n rows = sym (take-map message_of n rows)

-- the desk that an event at site k works on: its parts at an index of the rig
abbrev pub desk_from : Rig → List (List (List ℕ)) → ℕ → ℕ → Desk
desk_from g ts k i = desk_at g.size k (get_or g.sets i 0) (get_or g.sites i resting_site) (get_or g.arbiters i free_arbiter) ts

module _ (g : Rig) (ts : List (List (List ℕ))) (k : ℕ) where
  pub desk-of : in_range g.size k ≡ true → desk_from g ts k (place_of g.size k) ≡ desk_of (tables g ts) k
  unfolding desk_of
  desk-of e =
      let low = (within g.size k e).0 in
      rw (e, at_read 0 g.sets k low, at_read resting_site g.sites k low, at_read free_arbiter g.arbiters k low)

  module _ (rows : List (List ℕ)) (n : ℕ) (w : well_shaped (stored g ts rows n) ≡ true) where
    sh : Shaped (stored g ts rows n)
    sh = shaped (stored g ts rows n) w

    numbers : in_range g.size k ≡ true → NumbersInRange (desk_from g ts k (place_of g.size k))
    unfolding desk_of cell
    numbers e =
        let s = stored g ts rows n in
        rw (desk-of e) (record { clock = clock s sh k e; grant = grant s sh k e; held = λ j i. held_number s sh k j e i })

    names : (a b : ℕ) (m : Message) → first (between a b) (messages_in n rows) ≡ some m → NamesSites m
    names a b m e =
        let s = stored g ts rows n in
        let f = (first-shaped g.size g.sets a b (under_way s) m sh.messages (rw (← under-way n rows) e)).0 in
        record { sender = (ends s sh m f).0; arbiter = about-arbiter s sh m f; about = about-high s sh m f }

    pub ready : ZeroPast n rows → SiteReady (desk_from g ts k (place_of g.size k)) n rows
    ready z = record { size = sh.sets.high; numbers = numbers; few = sh.few; zeros = z; messages = names }

    pub size-high : g.size ≤ site_limit
    size-high = sh.sets.high

    pub accepted-high : g.accepted ≤ event_limit
    accepted-high = sh.accepted
