-- Document 01, "Sizes of a rig".
use Rattle.std.specs.Prelude.{ℕ, ◌*◌, ◌≤◌, List, replicate}

-- "Sites 1 to N, N from 1 to 31."
abbrev pub site_limit : ℕ
site_limit = 31

-- a number that may be a site's
pub record SiteNumber (k : ℕ) : Type 0 where
  pub low : 1 ≤ k
  pub high : k ≤ site_limit

-- "Messages under way: at most 1,024."
abbrev pub message_limit : ℕ
message_limit = 1_024

-- "Accepted events in a run: at most 1,000,000."
abbrev pub event_limit : ℕ
event_limit = 1_000_000

-- "Clocks, sequence and grant numbers: 0 to 2,000,000."
abbrev pub number_limit : ℕ
number_limit = 2_000_000

-- the messages that one event may send: at most two for each site
abbrev pub sent_limit : ℕ
sent_limit = 2 * site_limit

-- a row of a table: an entry for each site or arbiter
abbrev pub blank_row : List ℕ
blank_row = replicate site_limit 0

-- a table has a row for each site or arbiter
abbrev pub blank_table : List (List ℕ)
blank_table = replicate site_limit blank_row

-- the tables of numbers, and the index of each
abbrev pub table_count : ℕ
table_count = 4

abbrev pub HELD : ℕ
HELD = 0

abbrev pub HEIR : ℕ
HEIR = 1

abbrev pub INQUIRED : ℕ
INQUIRED = 2

abbrev pub QUEUED : ℕ
QUEUED = 3

-- "Fresh: all but N and the sets zero"
abbrev pub blank_tables : List (List (List ℕ))
blank_tables = replicate table_count blank_table
