-- What the shape of a state says of one site's part of it and of the messages that the site sends, but for the limits of the clock, of the grant
-- number and of the numbers sent: those limits are tested after an event.
use Prim.Native.Nat.{ℕ, ◌≤◌}
use mathlib.Core.Path.{◌≡◌, refl}
use mathlib.Core.Logic.{◌≢◌}
use mathlib.Core.Bool.{Bool, true, false}
use mathlib.Core.List.{List}
use native.Mathlib.Omega.{arith}
use lib.Dec.{eqb, leb}
use lib.ListN.{length}
use borrow.Author.Tests.{eqb-true, ne_eqb, leb-true, le-leb}
use Rattle.basics.specs.Helpers.{All}
use Rattle.basics.proofs.Basics.{and_split, or-second}
use Rattle.rig.specs.declared.Arbiter.{Arbiter}
use Rattle.rig.specs.declared.Desk.{Desk}
use Rattle.rig.specs.declared.Message.{Message}
use Rattle.rig.specs.declared.Site.{Site}
use Rattle.rig.specs.Limits.{site_limit, number_limit}
use Rattle.rig.specs.Messages.{request, reply, release, inquire, fail, yield, transfer}
use Rattle.model.specs.Tables.{at}
use Rattle.model.specs.State.{in_range, has_member}
use Rattle.model.specs.Desk.{Effect}
use Rattle.model.specs.Shape.{is_number, is_given, mode_shaped, holder_shaped, entry_shaped, own_shaped, heir_shaped, queued_shaped, number_shaped, plain_shaped, release_shaped, about_shaped, message_shaped}
use Rattle.model.proofs.Shaped.{in-range}
use Rattle.model_shaped.proofs.Rows.{Row}

-- Numbers and entries

pub given : (x : ℕ) → 1 ≤ x → x ≤ number_limit → is_given x ≡ true
unfolding is_given is_number
given x a b = rw (le-leb 1 x a, le-leb x number_limit b)

pub is-given : (x : ℕ) → is_given x ≡ true → (1 ≤ x) × (x ≤ number_limit)
unfolding is_given is_number
is-given x e = let w = and_split (leb 1 x) _ e in (leb-true 1 x w.0, leb-true x number_limit w.1)

pub entry-tied : (tie : Bool) (x : ℕ) → entry_shaped tie x ≡ true → x ≢ 0 → tie ≡ true
unfolding entry_shaped
entry-tied true x e ne = refl
entry-tied false x e ne = absurd (ne (eqb-true x 0 e))

pub entry-small : (tie : Bool) (x : ℕ) → entry_shaped tie x ≡ true → x ≤ number_limit
unfolding entry_shaped is_number
entry-small true x e = leb-true x number_limit e
entry-small false x e = let z = eqb-true x 0 e in omega arith

entry_of : (tie : Bool) (x : ℕ) → tie ≡ true → x ≤ number_limit → entry_shaped tie x ≡ true
unfolding entry_shaped is_number
entry_of tie x e h = rw (e, le-leb x number_limit h)

entry-none : (tie : Bool) → entry_shaped tie 0 ≡ true
unfolding entry_shaped is_number
entry-none true = refl
entry-none false = refl

-- a message whose number is within its limit is shaped
abbrev pub Passes : ℕ → List ℕ → Message → Type 0
Passes n sets m = m.number ≤ number_limit → message_shaped n sets m ≡ true

-- a site whose clock is within its limit is in a shaped mode
abbrev pub SiteFine : Site → Type 0
SiteFine s = s.clock ≤ number_limit → mode_shaped s.mode ≡ true

module _ (n : ℕ) (sets : List ℕ) (b : ℕ) where
  -- b is one of the sites 1 to n, and so are a site and a member of its set
  pub record Here : Type 0 where
    pub low : 1 ≤ b
    pub high : b ≤ n
    pub small : n ≤ site_limit
    pub ties : (k j : ℕ) → has_member sets k j ≡ true → (1 ≤ k) × (k ≤ n) × (1 ≤ j) × (j ≤ n)

  -- what a site has for each arbiter
  pub record Entries (he hr iq : List ℕ) : Type 0 where
    pub held : Row (own_shaped sets b) he
    pub heir : Row (heir_shaped sets b) hr
    pub inquired : Row (own_shaped sets b) iq
    pub long : length he ≡ site_limit

  -- the permission: its holder is shaped, and has a number
  pub record Permission (a : Arbiter) : Type 0 where
    pub shaped : holder_shaped sets b a ≡ true
    pub granted : a.holder ≢ 0 → 1 ≤ a.grant

  -- the desk of site b
  pub record Fine (d : Desk) : Type 0 where
    pub size : d.size ≡ n
    pub number : d.number ≡ b
    pub members : d.members ≡ at 0 sets b
    pub site : SiteFine d.site
    pub arbiter : Permission d.arbiter
    pub entries : Entries d.held d.heir d.inquired
    pub queue : Row (queued_shaped sets b) d.queued

  pub record FineEffect (e : Effect) : Type 0 where
    pub desk : Fine e.desk
    pub sent : All (Passes n sets) e.sent

module _ (sets : List ℕ) (b : ℕ) where
  -- no entry

  pub own-none : (j : ℕ) → own_shaped sets b j 0 ≡ true
  unfolding own_shaped
  own-none j = entry-none (has_member sets b j)

  pub heir-none : (j : ℕ) → heir_shaped sets b j 0 ≡ true
  unfolding heir_shaped
  heir-none j = refl

  pub queued-none : (k : ℕ) → queued_shaped sets b k 0 ≡ true
  unfolding queued_shaped
  queued-none k = entry-none (has_member sets k b)

  -- an entry for one that is tied

  pub own_of : (j x : ℕ) → has_member sets b j ≡ true → x ≤ number_limit → own_shaped sets b j x ≡ true
  unfolding own_shaped
  own_of j x e h = entry_of _ x e h

  pub queued-of : (k x : ℕ) → has_member sets k b ≡ true → x ≤ number_limit → queued_shaped sets b k x ≡ true
  unfolding queued_shaped
  queued-of k x e h = entry_of _ x e h

  pub heir-of : (j x : ℕ) → has_member sets b j ≡ true → has_member sets x j ≡ true → heir_shaped sets b j x ≡ true
  unfolding heir_shaped
  heir-of j x e h = rw (e, h) (or-second (eqb x 0) true refl)

  pub heir-tied : (j x : ℕ) → heir_shaped sets b j x ≡ true → x ≢ 0 → has_member sets x j ≡ true
  unfolding heir_shaped
  heir-tied j x e ne = (and_split (has_member sets b j) _ (rw (ne_eqb x 0 ne) at e)).1

  -- a holder

  pub holder-of : (a : Arbiter) → holder_shaped sets b a ≡ true → a.holder ≢ 0 → (has_member sets a.holder b ≡ true) × (is_given a.seq ≡ true)
  unfolding holder_shaped
  holder-of a e ne = and_split (has_member sets a.holder b) (is_given a.seq) (rw (ne_eqb a.holder 0 ne) at e)

-- Messages

module _ {n : ℕ} {sets : List ℕ} {b : ℕ} (p : Here n sets b) where
  here : in_range n b ≡ true
  here = in-range n b p.low p.high

  site-in : (k j : ℕ) → has_member sets k j ≡ true → in_range n k ≡ true
  site-in k j e = let w = p.ties k j e in in-range n k w.0 w.1

  arbiter-in : (k j : ℕ) → has_member sets k j ≡ true → in_range n j ≡ true
  arbiter-in k j e = let w = p.ties k j e in in-range n j w.2 w.3

  pub request-passes : (j x : ℕ) → has_member sets b j ≡ true → 1 ≤ x → Passes n sets (request b j x)
  unfolding message_shaped number_shaped about_shaped plain_shaped
  request-passes j x e l h = rw (here, arbiter-in b j e, given x l h, e)

  pub reply-passes : (k j x : ℕ) → has_member sets k j ≡ true → 1 ≤ x → Passes n sets (reply b k j x)
  unfolding message_shaped number_shaped about_shaped
  reply-passes k j x e l h = rw (here, site-in k j e, given x l h, e)

  pub release-passes : (j x : ℕ) → has_member sets b j ≡ true → 1 ≤ x → Passes n sets (release b j 0 x)
  unfolding message_shaped number_shaped about_shaped release_shaped
  release-passes j x e l h = rw (here, arbiter-in b j e, given x l h, e)

  pub hand_over-passes : (j k x : ℕ) → has_member sets b j ≡ true → has_member sets k j ≡ true → 1 ≤ x → Passes n sets (release b j k x)
  unfolding message_shaped number_shaped about_shaped release_shaped
  hand_over-passes j k x e f l h = rw (here, arbiter-in b j e, given x l h, e, f) (or-second (eqb k 0) true refl)

  pub inquire-passes : (k x : ℕ) → has_member sets k b ≡ true → 1 ≤ x → Passes n sets (inquire b k x)
  unfolding message_shaped number_shaped about_shaped plain_shaped
  inquire-passes k x e l h = rw (here, site-in k b e, given x l h, e)

  pub fail-passes : (k x : ℕ) → has_member sets k b ≡ true → Passes n sets (fail b k x)
  unfolding message_shaped number_shaped is_number about_shaped plain_shaped
  fail-passes k x e h = rw (here, site-in k b e, le-leb x number_limit h, e)

  pub yield-passes : (j x : ℕ) → has_member sets b j ≡ true → 1 ≤ x → Passes n sets (yield b j x)
  unfolding message_shaped number_shaped about_shaped plain_shaped
  yield-passes j x e l h = rw (here, arbiter-in b j e, given x l h, e)

  pub transfer-passes : (k y x : ℕ) → has_member sets k b ≡ true → has_member sets y b ≡ true → 1 ≤ x → Passes n sets (transfer b k y x)
  unfolding message_shaped number_shaped about_shaped
  transfer-passes k y x e f l h = rw (here, site-in k b e, given x l h, e, f)
