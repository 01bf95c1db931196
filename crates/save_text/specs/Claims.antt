-- Request 2.2: "Any well-shaped state read from its own text is that state, and a text is accepted only if the writer would produce it."
use Rattle.std.specs.Prelude.{ℕ, ◌≤◌, true, List, [], ◌≡◌, length}
use Rattle.std.proofs.Math.Option.{some}
use Rattle.rig.specs.Limits.{site_limit, message_limit}
use Rattle.model.specs.Tables.{at}
use Rattle.model.specs.State.{Stored, under_way}
use Rattle.model.specs.Shape.{well_shaped}
use Rattle.model.specs.Event.{padded}
use Rattle.model.specs.Losses.{lost_all}
use Rattle.save_text.specs.Text.{text_in, text_of, first_spelling}
use Rattle.save_text.specs.Reading.{read_text}

-- a table of numbers as a caller has it: a row for each site, of an entry for each site
pub record IsTable (table : List (List ℕ)) : Type 0 where
  pub rows : length table ≡ site_limit
  pub columns : (k : ℕ) → 1 ≤ k → k ≤ site_limit → length (at [] table k) ≡ site_limit

-- a state as a caller has it, its arrays and its list of their lengths
pub record IsState (s : Stored) : Type 0 where
  pub sites : length s.tables.rig.sites ≡ site_limit
  pub arbiters : length s.tables.rig.arbiters ≡ site_limit
  pub held : IsTable s.tables.held
  pub heir : IsTable s.tables.heir
  pub inquired : IsTable s.tables.inquired
  pub queued : IsTable s.tables.queued
  pub list : length s.list ≡ message_limit

-- "Reading puts 0 past the messages"
unfoldable pub kept : Stored → Stored
kept s = record { tables = s.tables; list = padded (under_way s); count = s.count }

-- "Any well-shaped state read from its own text is that state",
unfoldable pub ReadBack : Type 0
ReadBack = (s : Stored) → IsState s → well_shaped s ≡ true → read_text (text_of s) ≡ some (kept s)

-- "and a text is accepted only if the writer would produce it".
unfoldable pub WrittenBack : Type 0
WrittenBack = (text : List ℕ) (s : Stored) → read_text text ≡ some s → (well_shaped s ≡ true) × (text_of s ≡ text)

-- Request 2.3: where no fail under way has a number, the text is the one of the version before. So its texts of states that are well shaped now are read,
-- and written back as they are.
unfoldable pub FirstSpelled : Type 0
FirstSpelled = (s : Stored) → well_shaped s ≡ true → lost_all (under_way s) ≡ under_way s → text_in first_spelling s ≡ text_of s

-- the length of the longest text: 31 sites, each with all 31 in its set, every number as long as it may be, 1,024 messages with a named site
abbrev pub longest : ℕ
longest = 59_108

unfoldable pub NoneLonger : Type 0
NoneLonger = (s : Stored) → well_shaped s ≡ true → length (text_of s) ≤ longest
