-- Demand 3 of the rig whose tables are functions, as a statement.
use Rattle.std.specs.Prelude.{ℕ, ◌+◌, ◌≡◌, ◌≢◌, not, cond, List, [], eqb}
use Rattle.basics.specs.Helpers.{count, tally}
use Rattle.protocol.specs.Message.{Message, is_out, is_back}
use Rattle.protocol.specs.Local.{WAITING, INSIDE}
use Rattle.protocol.specs.System.{System, Lawful}
use Rattle.protocol.specs.Rig.{Row, Rig, messages_of, Event, run, fresh}

module _ (y : System) where
  -- "Places of arbiter j's permission, counted together: free, if j has no holder; travelling out ...; held, each site with a number
  -- held for j; travelling back ..."
  abbrev pub free_at : Row → ℕ
  free_at r = cond (eqb r.holder 0) 1 0

  abbrev pub held_at : Row → ℕ
  held_at r = count (λ k. not (eqb (r.held k) 0)) y.size

  abbrev pub places : Row → List Message → ℕ
  places r ms = free_at r + tally is_out ms + held_at r + tally is_back ms

  pub record Sound (r : Rig) : Type 0 where
    -- at most one site inside
    pub exclusion : (k l : ℕ) → r.sites.mode k ≡ INSIDE → r.sites.mode l ≡ INSIDE → k ≡ l
    -- each arbiter's permission is in exactly one place
    pub one_place : (j : ℕ) → places (r.rows j) (messages_of j r.under_way) ≡ 1
    -- "A rig is stuck if no message is under way, no site is inside and a site is waiting."
    pub not_stuck : r.under_way ≡ [] → ((k : ℕ) → r.sites.mode k ≢ INSIDE) → (k : ℕ) → r.sites.mode k ≢ WAITING

-- Demand 3: for every family that setup passes, every order of asks, and every list of events from the fresh state, also where fails lose
-- their numbers between them
unfoldable pub Claim : Type 0
Claim = (y : System) → Lawful y → (es : List Event) → Sound y (run y es fresh)
