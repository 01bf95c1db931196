-- What the lines of a text give, part by part: the sets, the sites with their rows, the arbiters with theirs, the messages.
use Rattle.std.specs.Prelude.{ℕ, ◌-◌, Bool, true, false, ◌&&◌, Option, MatchOption, List, [], ◌∷◌, ◌++◌, map, ◌≡◌, leb, length, replicate}
use Rattle.rig.specs.declared.Arbiter.{Arbiter}
use Rattle.rig.specs.declared.Message.{Message}
use Rattle.rig.specs.declared.Site.{Site}
use Rattle.rig.specs.Limits.{site_limit, message_limit, blank_row, blank_table}
use Rattle.model.specs.Setup.{resting_site, free_arbiter}
use Rattle.list_rows.specs.Rows.{row_of, zero_row, ZeroPast}
use Rattle.list_rows.specs.State.{stored}
use Rattle.save_lines.specs.Lines.{lines_in, numbers_in}
use Rattle.save_messages.specs.Messages.{message_from}
use Rattle.save_text.specs.Reading.{accepted_line, arbiter_line, message_line, size_from, set_from, array_of, site_from, arbiter_at, own_row, queue_row, messages_from, state_from}
use Rattle.save_taking.specs.declared.Taken.{Taken}
use Rattle.save_reading.specs.declared.Given.{Given}
use Rattle.save_reading.specs.Places.{line_start}

-- of a text whose rig has n sites
module _ (text : List ℕ) (n : ℕ) where
  abbrev pub taken_sets : Taken (List ℕ)
  taken_sets = record { value = array_of 0 (set_from (lines_in text)) n; next = line_start text (accepted_line n) }

  -- with these sets
  module _ (sets : List ℕ) where
    abbrev pub taken_sites : Taken (List Site)
    taken_sites = record { value = array_of resting_site (site_from (lines_in text) n sets) n; next = line_start text (arbiter_line n 1) }

    abbrev pub taken_arbiters : Taken (List Arbiter)
    taken_arbiters = record { value = array_of free_arbiter (arbiter_at (lines_in text) n sets) n; next = line_start text (message_line n) }

    -- the rows of the first k sites, and those of the first k arbiters
    abbrev pub own_table : ℕ → ℕ → List (List ℕ)
    own_table i k = array_of blank_row (own_row (lines_in text) n sets i) k

    abbrev pub queue_table : ℕ → List (List ℕ)
    queue_table k = array_of blank_row (queue_row (lines_in text) n sets) k

    -- the tables once the rows of k sites are read, and once those of k arbiters are
    abbrev pub own_tables : ℕ → List (List (List ℕ))
    own_tables k = own_table 2 k ∷ own_table 3 k ∷ own_table 4 k ∷ blank_table ∷ []

    abbrev pub all_tables : ℕ → List (List (List ℕ))
    all_tables k = own_table 2 n ∷ own_table 3 n ∷ own_table 4 n ∷ queue_table k ∷ []

-- the messages of lines, and their rows with zeros behind them
abbrev pub messages_in : List (List ℕ) → List Message
messages_in ls = map (λ l. message_from (numbers_in l)) ls

abbrev pub message_rows : List Message → List (List ℕ)
message_rows ms = map row_of ms ++ replicate (message_limit - length ms) zero_row

-- the lines are read as messages, n of them
pub record ReadsAll (ls list : List (List ℕ)) (n : ℕ) : Type 0 where
  pub all : leb (length ls) message_limit ≡ true
  pub count : n ≡ length ls
  pub rows : list ≡ message_rows (messages_in ls)

-- where they are too many, nothing is said of the rows
abbrev pub ReadsMessages : List (List ℕ) → List (List ℕ) → Option ℕ → Type 0
ReadsMessages ls list r = MatchOption r (leb (length ls) message_limit ≡ false) (λ n. ReadsAll ls list n)

-- no more sites and messages than a state has
abbrev pub fitting : List (List ℕ) → Bool
fitting ls = leb (size_from ls) site_limit && leb (length (messages_from ls)) message_limit

-- a rig, tables, rows and a count are the state that the lines of a text give
pub record GivesState (text : List ℕ) (ts : List (List (List ℕ))) (list : List (List ℕ)) (g : Given) : Type 0 where
  pub fits : fitting (lines_in text) ≡ true
  pub state : stored g.rig ts list g.count ≡ state_from (lines_in text)
  pub zeros : ZeroPast g.count list

-- they are, unless there are too many sites or messages
abbrev pub GivesLines : List ℕ → List (List (List ℕ)) → List (List ℕ) → Option Given → Type 0
GivesLines text ts list r = MatchOption r (fitting (lines_in text) ≡ false) (λ g. GivesState text ts list g)
