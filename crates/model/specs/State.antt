-- The state of a rig: its tables, the lent list, and what one site has of the tables.
use Rattle.std.specs.Prelude.{ℕ, Bool, true, false, ◌&&◌, List, [], leb, take, get_or}
use Rattle.rig.specs.declared.Rig.{Rig}
use Rattle.rig.specs.declared.Site.{Site}
use Rattle.rig.specs.declared.Arbiter.{Arbiter}
use Rattle.rig.specs.declared.Desk.{Desk}
use Rattle.rig.specs.declared.Mode.{Mode}
use Rattle.rig.specs.declared.Mode.TheVariants.{Rest, Waiting, Inside}
use Rattle.rig.specs.declared.Message.{Message}
use Rattle.rig.specs.Limits.{HELD, HEIR, INQUIRED, QUEUED, blank_tables}
use Rattle.model.specs.Tables.{at, put, cell}
use Rattle.model.specs.Sets.{member}
use Rattle.model.specs.Setup.{resting_site, free_arbiter, fresh_rig}

-- "For each member j it has the grant number held (0 none), an heir (0 none) and a remembered inquire's number (0 none)."
-- "An arbiter has ... for each site the sequence number queued (0 none)."
-- held, heir and inquired have a row for each site, queued has a row for each arbiter.
pub record Tables : Type 0 where
  pub rig : Rig
  pub held : List (List ℕ)
  pub heir : List (List ℕ)
  pub inquired : List (List ℕ)
  pub queued : List (List ℕ)

-- a rig and its tables of numbers, each at its index
abbrev pub tables : Rig → List (List (List ℕ)) → Tables
tables g ts = record { rig = g; held = get_or ts HELD []; heir = get_or ts HEIR []; inquired = get_or ts INQUIRED []; queued = get_or ts QUEUED [] }

-- "Fresh: all but N and the sets zero, at rest": the tables of setup's sets
unfoldable pub fresh_tables : ℕ → List ℕ → Tables
fresh_tables n sets = tables (fresh_rig n sets) blank_tables

-- The state of a rig as its caller keeps it: the tables, the lent list of messages, and how many of its entries are under way.
pub record Stored : Type 0 where
  pub tables : Tables
  pub list : List Message
  pub count : ℕ

-- a rig, its tables, the list, and how many of its messages are under way
abbrev pub stored : Rig → List (List (List ℕ)) → List Message → ℕ → Stored
stored g ts list n = record { tables = tables g ts; list = list; count = n }

abbrev pub under_way : Stored → List Message
under_way s = take s.count s.list

-- What a mode says

abbrev pub is_resting : Mode → Bool
is_resting Rest = true
is_resting (Waiting s f) = false
is_resting Inside = false

abbrev pub is_waiting : Mode → Bool
is_waiting Rest = false
is_waiting (Waiting s f) = true
is_waiting Inside = false

abbrev pub is_inside : Mode → Bool
is_inside Rest = false
is_inside (Waiting s f) = false
is_inside Inside = true

-- "A site not waiting has sequence number and failed mark 0"
abbrev pub seq_in : Mode → ℕ
seq_in Rest = 0
seq_in (Waiting s f) = s
seq_in Inside = 0

abbrev pub failed_in : Mode → Bool
failed_in Rest = false
failed_in (Waiting s f) = f
failed_in Inside = false

-- Reading the tables

abbrev pub size_of : Tables → ℕ
size_of t = t.rig.size

abbrev pub sets_of : Tables → List ℕ
sets_of t = t.rig.sets

-- one of the sites 1 to n
abbrev pub in_range : ℕ → ℕ → Bool
in_range n k = leb 1 k && leb k n

-- arbiter j is a member of the request set of site k
abbrev pub has_member : List ℕ → ℕ → ℕ → Bool
has_member sets k j = member (at 0 sets k) j

abbrev pub site_of : Tables → ℕ → Site
site_of t k = at resting_site t.rig.sites k

-- a site's mode, of a rig
abbrev pub mode_in : Rig → ℕ → Mode
mode_in g k = (at resting_site g.sites k).mode

abbrev pub mode_of : Tables → ℕ → Mode
mode_of t k = mode_in t.rig k

abbrev pub arbiter_of : Tables → ℕ → Arbiter
arbiter_of t j = at free_arbiter t.rig.arbiters j

-- what site k has for arbiter j, and what arbiter j has of site k
abbrev pub held_of : Tables → ℕ → ℕ → ℕ
held_of t k j = cell t.held k j

abbrev pub heir_of : Tables → ℕ → ℕ → ℕ
heir_of t k j = cell t.heir k j

abbrev pub inquired_of : Tables → ℕ → ℕ → ℕ
inquired_of t k j = cell t.inquired k j

abbrev pub queued_of : Tables → ℕ → ℕ → ℕ
queued_of t j k = cell t.queued j k

-- One site's part

-- all that site s has
unfoldable pub desk_of : Tables → ℕ → Desk
desk_of t s = record {
  size = size_of t;
  number = s;
  members = at 0 (sets_of t) s;
  site = site_of t s;
  arbiter = arbiter_of t s;
  held = at [] t.held s;
  heir = at [] t.heir s;
  inquired = at [] t.inquired s;
  queued = at [] t.queued s;
}

-- the tables once site s has the desk d
unfoldable pub with_desk : Tables → ℕ → Desk → Tables
with_desk t s d = record {
  rig = record {
    size = t.rig.size;
    sets = t.rig.sets;
    sites = put t.rig.sites s d.site;
    arbiters = put t.rig.arbiters s d.arbiter;
    accepted = t.rig.accepted;
  };
  held = put t.held s d.held;
  heir = put t.heir s d.heir;
  inquired = put t.inquired s d.inquired;
  queued = put t.queued s d.queued;
}

-- the tables with a number of accepted events
unfoldable pub with_accepted : Tables → ℕ → Tables
with_accepted t n = record {
  rig = record { size = t.rig.size; sets = t.rig.sets; sites = t.rig.sites; arbiters = t.rig.arbiters; accepted = n };
  held = t.held;
  heir = t.heir;
  inquired = t.inquired;
  queued = t.queued;
}
