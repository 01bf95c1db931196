-- Small states of three sites, and changes that put one entry of a state.
use Rattle.std.specs.Prelude.{ℕ, ◌-◌, false, List, [], ◌∷◌, replicate}
use Rattle.rig.specs.declared.Rig.{Rig}
use Rattle.rig.specs.declared.Site.{Site}
use Rattle.rig.specs.declared.Arbiter.{Arbiter}
use Rattle.rig.specs.declared.Mode.{Mode}
use Rattle.rig.specs.declared.Mode.TheVariants.{Waiting}
use Rattle.rig.specs.declared.Message.{Message}
use Rattle.rig.specs.Limits.{site_limit, message_limit, event_limit, number_limit, blank_table}
use Rattle.rig.specs.Messages.{request, fail}
use Rattle.model.specs.Tables.{at, put}
use Rattle.model.specs.Setup.{resting_site, free_arbiter}
use Rattle.model.specs.State.{Stored}
use Rattle.model.specs.Event.{padded}
use Rattle.model.specs.Run.{fresh}

unfoldable pub site : Mode → ℕ → Site
site mode clock = record { mode = mode; clock = clock }

unfoldable pub arbiter : ℕ → ℕ → ℕ → Arbiter
arbiter grant holder seq = record { grant = grant; holder = holder; seq = seq }

-- a table with n in row a, column b
unfoldable pub entry : List (List ℕ) → ℕ → ℕ → ℕ → List (List ℕ)
entry t a b n = put t a (put (at [] t a) b n)

-- The state that the cases change: the sets are {1, 2}, {2, 3} and {1, 3}, so that site 1 lacks arbiter 3, site 2 lacks arbiter 1 and site 3
-- lacks arbiter 2. Sites 1 and 3 have asked; arbiter 1 has granted site 1, which holds the permission with site 3 as heir; site 3 is queued
-- there. Under way are the requests to arbiters 2 and 3, and a fail to site 3.

unfoldable pub base_sets : List ℕ
base_sets = 3 ∷ 6 ∷ 5 ∷ replicate (site_limit - 3) 0

unfoldable pub base_held : List (List ℕ)
base_held = entry blank_table 1 1 1

unfoldable pub base_heir : List (List ℕ)
base_heir = entry blank_table 1 1 3

unfoldable pub base_queued : List (List ℕ)
base_queued = entry blank_table 1 3 1

unfoldable pub base_messages : List Message
base_messages = request 1 2 1 ∷ request 3 3 1 ∷ fail 1 3 1 ∷ []

-- what a state has beside its sets and its tables of numbers
pub record Parts : Type 0 where
  pub sites : List Site
  pub arbiters : List Arbiter
  pub accepted : ℕ
  pub list : List Message
  pub count : ℕ

unfoldable pub as_is : Parts
as_is = record {
  sites = site (Waiting 1 false) 1 ∷ resting_site ∷ site (Waiting 1 false) 1 ∷ replicate (site_limit - 3) resting_site;
  arbiters = arbiter 1 1 1 ∷ replicate (site_limit - 1) free_arbiter;
  accepted = 6;
  list = padded base_messages;
  count = 3;
}

unfoldable pub rig_with : Parts → Rig
rig_with p = record { size = 3; sets = base_sets; sites = p.sites; arbiters = p.arbiters; accepted = p.accepted }

unfoldable pub state_with : Parts → Stored
state_with p = record {
  tables = record { rig = rig_with p; held = base_held; heir = base_heir; inquired = blank_table; queued = base_queued };
  list = p.list;
  count = p.count;
}

unfoldable pub base : Stored
base = state_with as_is

-- Changes of the parts

-- site k
unfoldable pub site_is : ℕ → Mode → ℕ → Parts → Parts
site_is k mode clock p = record { sites = put p.sites k (site mode clock); arbiters = p.arbiters; accepted = p.accepted; list = p.list; count = p.count }

-- arbiter j: its grant number, its holder, the holder's sequence number
unfoldable pub arbiter_is : ℕ → ℕ → ℕ → ℕ → Parts → Parts
arbiter_is j grant holder seq p = record {
  sites = p.sites;
  arbiters = put p.arbiters j (arbiter grant holder seq);
  accepted = p.accepted;
  list = p.list;
  count = p.count;
}

unfoldable pub accepted_is : ℕ → Parts → Parts
accepted_is n p = record { sites = p.sites; arbiters = p.arbiters; accepted = n; list = p.list; count = p.count }

-- the list that is lent, and its count
unfoldable pub list_is : List Message → ℕ → Parts → Parts
list_is list count p = record { sites = p.sites; arbiters = p.arbiters; accepted = p.accepted; list = list; count = count }

-- one message more under way, the first
unfoldable pub carries : Message → Parts → Parts
carries m p = list_is (padded (m ∷ base_messages)) 4 p

-- n requests of site 1 to arbiter 2
unfoldable pub many : ℕ → List Message
many n = replicate n (request 1 2 1)

unfoldable pub full : Parts → Parts
full p = list_is (many message_limit) message_limit p

-- Changes of the size, the sets and the tables

unfoldable pub size_is : ℕ → Stored → Stored
size_is n s = let g = s.tables.rig in record {
  tables = record {
    rig = record { size = n; sets = g.sets; sites = g.sites; arbiters = g.arbiters; accepted = g.accepted };
    held = s.tables.held;
    heir = s.tables.heir;
    inquired = s.tables.inquired;
    queued = s.tables.queued;
  };
  list = s.list;
  count = s.count;
}

-- the set of site k
unfoldable pub set_is : ℕ → ℕ → Stored → Stored
set_is k set s = let g = s.tables.rig in record {
  tables = record {
    rig = record { size = g.size; sets = put g.sets k set; sites = g.sites; arbiters = g.arbiters; accepted = g.accepted };
    held = s.tables.held;
    heir = s.tables.heir;
    inquired = s.tables.inquired;
    queued = s.tables.queued;
  };
  list = s.list;
  count = s.count;
}

-- what site k has for arbiter j
unfoldable pub held_is : ℕ → ℕ → ℕ → Stored → Stored
held_is k j n s = record {
  tables = record { rig = s.tables.rig; held = entry s.tables.held k j n; heir = s.tables.heir; inquired = s.tables.inquired; queued = s.tables.queued };
  list = s.list;
  count = s.count;
}

unfoldable pub heir_is : ℕ → ℕ → ℕ → Stored → Stored
heir_is k j h s = record {
  tables = record { rig = s.tables.rig; held = s.tables.held; heir = entry s.tables.heir k j h; inquired = s.tables.inquired; queued = s.tables.queued };
  list = s.list;
  count = s.count;
}

unfoldable pub inquired_is : ℕ → ℕ → ℕ → Stored → Stored
inquired_is k j n s = record {
  tables = record { rig = s.tables.rig; held = s.tables.held; heir = s.tables.heir; inquired = entry s.tables.inquired k j n; queued = s.tables.queued };
  list = s.list;
  count = s.count;
}

-- what arbiter j has queued of site k
unfoldable pub queued_is : ℕ → ℕ → ℕ → Stored → Stored
queued_is j k n s = record {
  tables = record { rig = s.tables.rig; held = s.tables.held; heir = s.tables.heir; inquired = s.tables.inquired; queued = entry s.tables.queued j k n };
  list = s.list;
  count = s.count;
}

-- Other states

-- numbers of each kind at their limits; each tie that is added is of site 1 to arbiter 2
unfoldable pub at_limits : Stored
at_limits =
    held_is 1 2 number_limit (heir_is 1 2 1 (inquired_is 1 2 number_limit (queued_is 2 1 number_limit
    (state_with (accepted_is (event_limit - 1) (site_is 3 (Waiting number_limit false) number_limit (arbiter_is 2 number_limit 1 number_limit
    (carries (request 1 2 number_limit) as_is))))))))

-- nothing has happened: n sites, each with the set
unfoldable pub alike : ℕ → ℕ → Stored
alike n set = fresh n (replicate site_limit set) (padded [])
