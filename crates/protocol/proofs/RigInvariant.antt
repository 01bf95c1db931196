-- The invariant of the whole rig: that of every arbiter, and what only the rig as a whole can say. It gives the clauses of every
-- arbiter, and so what a message that is taken off finds.
use Prim.Native.Nat.{ℕ, ◌≤◌}
use mathlib.Core.Path.{◌≡◌}
use mathlib.Core.Logic.{◌≢◌}
use mathlib.Core.Bool.{true, false}
use mathlib.Core.Option.{some}
use Rattle.basics.specs.Helpers.{first, All}
use Rattle.protocol.specs.Message.{Message, between}
use Rattle.protocol.specs.Local.{REST, WAITING, INSIDE}
use Rattle.protocol.specs.System.{System, Lawful, setting_of}
use Rattle.protocol.specs.Rig.{Sent, Rig, messages_of, sent, channel}
use Rattle.basics.proofs.Basics.{by_bool}
use Rattle.basics.proofs.Lists.{all_without}
use Rattle.protocol.proofs.Invariant.{site_of, Invariant}
use Rattle.protocol.proofs.Seen.{view_of, law-of}
use Rattle.protocol.proofs.Clauses.{FitsTables, Clauses, fits-member}
use Rattle.protocol.proofs.ClausesHold.{clauses-hold}
use Rattle.protocol.proofs.RigMessages.{first-messages, all-messages}

module _ (y : System) where
  pub record RigInvariant (r : Rig) : Type 0 where
    -- the invariant of each arbiter
    pub arbiters : (j : ℕ) → Invariant (setting_of y j) (view_of r j)
    -- a site that is not at rest is one of the sites 1 to N
    pub in_range : (k : ℕ) → r.sites.mode k ≢ REST → (1 ≤ k) × (k ≤ y.size)
    -- a site is at rest, waiting or inside
    pub mode_range : (k : ℕ) → r.sites.mode k ≤ INSIDE
    -- all past N is 0: clocks and grant numbers; the rest is in the clauses
    pub clock_in_range : (k : ℕ) → r.clock k ≢ 0 → (1 ≤ k) × (k ≤ y.size)
    pub grant_in_range : (j : ℕ) → (r.rows j).grant ≢ 0 → (1 ≤ j) × (j ≤ y.size)
    -- S3: a waiting site does not hold all its members
    pub lacks_one : (k : ℕ) → r.sites.mode k ≡ WAITING → (j : ℕ) × (y.sets k j ≡ true) × ((r.rows j).held k ≡ 0)

module _ (y : System) (lw : Lawful y) where
  -- the clauses of each arbiter
  pub clauses-at : (r : Rig) → RigInvariant y r → (j : ℕ) → Clauses (setting_of y j) (view_of r j)
  clauses-at r w j = clauses-hold (setting_of y j) (law-of y lw j) (view_of r j) (w.arbiters j)

  -- the message that is taken off fits: a reply finds its site waiting with the member not held, a plain release or a yield is the
  -- permission, and is not stray
  pub first_fits : (r : Rig) (a b j : ℕ) (m : Message) → first (channel a b) r.under_way ≡ some (sent j m) → RigInvariant y r → FitsTables (setting_of y j) (view_of r j) m
  unfolding All
  first_fits r a b j m e w = (all_without (between j a b) (FitsTables (setting_of y j) (view_of r j)) (messages_of j r.under_way) m (first-messages a b r.under_way (sent j m) e) (clauses-at r w j).T).0

  -- every message under way fits
  pub all-fit : (r : Rig) → RigInvariant y r → All (λ x. FitsTables (setting_of y x.arbiter) (view_of r x.arbiter) x.message) r.under_way
  all-fit r w = all-messages (λ j. FitsTables (setting_of y j) (view_of r j)) r.under_way (λ j. (clauses-at r w j).T)

  -- so its arbiter is one of the sites 1 to N
  pub arbiter-range : (r : Rig) (a b : ℕ) (x : Sent) → first (channel a b) r.under_way ≡ some x → RigInvariant y r → (1 ≤ x.arbiter) × (x.arbiter ≤ y.size)
  arbiter-range r a b x e w = lw.member_in_range (site_of x.message) x.arbiter (fits-member (setting_of y x.arbiter) (view_of r x.arbiter) x.message (first_fits r a b x.arbiter x.message e w))

  -- no set has a member outside 1 to N
  pub not-member : (s j : ℕ) → ((1 ≤ j) → j ≤ y.size → ⊥) → y.sets s j ≡ false
  not-member s j h = by_bool (y.sets s j) (λ e. let w = lw.member_in_range s j e in absurd (h w.0 w.1)) (λ e. e)
