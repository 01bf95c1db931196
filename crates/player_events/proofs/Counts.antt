-- What a printed line says of a rig's sites stays where a site takes the place of one of its kind.
use Prim.Native.Nat.{ℕ, zero, suc}
use mathlib.Core.Bool.{Bool, true, false}
use mathlib.Core.List.{List}
use mathlib.Core.Path.{◌≡◌, refl, sym, ap, ◌∙◌}
use lib.ListN.{get_or, set, get_or-map}
use lib.Seq.{map-set_same}
use Rattle.rig.specs.declared.Mode.{Mode}
use Rattle.rig.specs.declared.Mode.TheVariants.{Rest, Waiting, Inside}
use Rattle.rig.specs.declared.Rig.{Rig}
use Rattle.rig.specs.declared.Site.{Site}
use Rattle.basics.specs.Helpers.{count, lowest}
use Rattle.basics.proofs.Basics.{clash}
use Rattle.model.specs.Tables.{at}
use Rattle.model.specs.Setup.{resting_site}
use Rattle.model.specs.State.{mode_in, is_waiting, is_inside}
use Rattle.model.specs.Run.{waiting_count}
use Rattle.model.specs.Printed.{inside_up_to}
use Rattle.player_events.specs.Kinds.{same_kind}

waits-alike : (a b : Mode) → same_kind a b ≡ true → is_waiting b ≡ is_waiting a
waits-alike Rest Rest h = refl
waits-alike Rest (Waiting s f) h = clash false h refl
waits-alike Rest Inside h = refl
waits-alike (Waiting s f) b h = h
waits-alike Inside Rest h = refl
waits-alike Inside (Waiting s f) h = clash false h refl
waits-alike Inside Inside h = refl

inside-alike : (a b : Mode) → same_kind a b ≡ true → is_inside b ≡ is_inside a
inside-alike Rest Rest h = refl
inside-alike Rest (Waiting s f) h = refl
inside-alike Rest Inside h = clash false h refl
inside-alike (Waiting s f) Rest h = refl
inside-alike (Waiting s f) (Waiting s' f') h = refl
inside-alike (Waiting s f) Inside h = clash false h refl
inside-alike Inside b h = h

module _ (g h : Rig) (i : ℕ) (v : Site) (size : h.size ≡ g.size) (sites : h.sites ≡ set g.sites i v) where
  -- a test of the modes, site by site
  kept : (f : Mode → Bool) → f v.mode ≡ f (get_or g.sites i resting_site).mode → (k : ℕ) → f (mode_in h k) ≡ f (mode_in g k)
  unfolding at
  kept f e zero = refl
  kept f e (suc k) =
      let F : Site → Bool = λ s. f s.mode in
      rw sites (
      sym (get_or-map F (set g.sites i v) k resting_site)
      ∙ ap (λ (l : List Bool). get_or l k (F resting_site)) (map-set_same F g.sites i v resting_site e)
      ∙ get_or-map F g.sites k resting_site)

  module _ (kind : same_kind (get_or g.sites i resting_site).mode v.mode ≡ true) where
    abbrev old : Mode
    old = (get_or g.sites i resting_site).mode

    pub inside-kept : inside_up_to h h.size ≡ inside_up_to g g.size
    unfolding inside_up_to
    inside-kept = let e = kept is_inside (inside-alike old v.mode kind) in λ j. lowest (λ k. e k j) (size j)

    pub waiting_kept : waiting_count h ≡ waiting_count g
    unfolding waiting_count
    waiting_kept = let e = kept is_waiting (waits-alike old v.mode kind) in λ j. count (λ k. e k j) (size j)
