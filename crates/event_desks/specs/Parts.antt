-- One site's desk, from its parts, and the tables with its rows stored.
use Rattle.std.specs.Prelude.{ℕ, ◌≡◌, List, [], get_or}
use Rattle.rig.specs.declared.Rig.{Rig}
use Rattle.rig.specs.declared.Site.{Site}
use Rattle.rig.specs.declared.Arbiter.{Arbiter}
use Rattle.rig.specs.declared.Desk.{Desk}
use Rattle.rig.specs.Limits.{HELD, HEIR, INQUIRED, QUEUED}
use Rattle.model.specs.Tables.{at, put}
use Rattle.model.specs.State.{Tables, tables}

-- site k of n: its set, itself as a site and as an arbiter, and its row of each table
abbrev pub desk_at : ℕ → ℕ → ℕ → Site → Arbiter → List (List (List ℕ)) → Desk
desk_at n k set s a ts = record {
  size = n;
  number = k;
  members = set;
  site = s;
  arbiter = a;
  held = at [] (get_or ts HELD []) k;
  heir = at [] (get_or ts HEIR []) k;
  inquired = at [] (get_or ts INQUIRED []) k;
  queued = at [] (get_or ts QUEUED []) k;
}

-- the tables once the rows of site k are those of the desk d
abbrev pub with_rows : Tables → ℕ → Desk → Tables
with_rows t k d = record {
  rig = t.rig;
  held = put t.held k d.held;
  heir = put t.heir k d.heir;
  inquired = put t.inquired k d.inquired;
  queued = put t.queued k d.queued;
}

-- the tables ts' are ts with the rows of site k those of d; the rig beside them is of no matter
abbrev pub RowsStored : ℕ → Desk → List (List (List ℕ)) → List (List (List ℕ)) → Type 0
RowsStored k d ts ts' = (g : Rig) → tables g ts' ≡ with_rows (tables g ts) k d
