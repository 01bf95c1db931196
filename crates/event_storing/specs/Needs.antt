-- What an event at one site needs.
use Rattle.std.specs.Prelude.{ℕ, ◌≤◌, ◌≡◌, true, List}
use Rattle.std.proofs.Math.Option.{some}
use Rattle.basics.specs.Helpers.{first}
use Rattle.rig.specs.declared.Desk.{Desk}
use Rattle.rig.specs.declared.Message.{Message}
use Rattle.rig.specs.Limits.{site_limit, message_limit, number_limit, SiteNumber}
use Rattle.rig.specs.Messages.{NamesSites}
use Rattle.model.specs.State.{in_range}
use Rattle.model.specs.Desk.{held_for}
use Rattle.model.specs.Deliver.{between}
use Rattle.list_rows.specs.Rows.{ZeroPast}
use Rattle.event_storing.specs.Leaves.{messages_in}

-- the numbers of a desk are in their range, so that what a rule adds to them fits their type
pub record NumbersInRange (d : Desk) : Type 0 where
  pub clock : d.site.clock ≤ number_limit
  pub grant : d.arbiter.grant ≤ number_limit
  pub held : (j : ℕ) → SiteNumber j → held_for d j ≤ number_limit

-- N within its limit; for a site of 1 to N its numbers in range; at most 1,024 messages, zeros behind them; each message that a
-- delivery would take off names sites
pub record SiteReady (d : Desk) (n : ℕ) (rows : List (List ℕ)) : Type 0 where
  pub size : d.size ≤ site_limit
  pub numbers : in_range d.size d.number ≡ true → NumbersInRange d
  pub few : n ≤ message_limit
  pub zeros : ZeroPast n rows
  pub messages : (a b : ℕ) (m : Message) → first (between a b) (messages_in n rows) ≡ some m → NamesSites m
