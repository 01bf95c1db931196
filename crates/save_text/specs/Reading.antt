-- Request 2.2: "a text is accepted only if the writer would produce it". A text is read as the state that its numbers give; it is accepted where that state
-- is well shaped and its text is this one, byte for byte.
use Rattle.std.specs.Prelude.{ℕ, zero, suc, ◌+◌, ◌-◌, ◌*◌, Bool, ◌&&◌, cond, List, [], ◌∷◌, ◌++◌, map, length, drop, get_or, replicate}
use Rattle.std.specs.Prelude as P
use Rattle.std.proofs.Math.Option.{Option, none, some}
use Rattle.rig.specs.declared.Site.{Site}
use Rattle.rig.specs.declared.Arbiter.{Arbiter}
use Rattle.rig.specs.declared.Message.{Message}
use Rattle.rig.specs.Limits.{site_limit, blank_row}
use Rattle.model.specs.Setup.{resting_site, free_arbiter}
use Rattle.model.specs.State.{Tables, Stored, has_member}
use Rattle.model.specs.Shape.{well_shaped}
use Rattle.model.specs.Event.{padded}
use Rattle.player_bytes.specs.Same.{same}
use Rattle.player_grammar.specs.Grammar.{meaning_of}
use Rattle.player_text.specs.Player.{size_in, set_in}
use Rattle.save_lines.specs.Lines.{lines_in, numbers_in}
use Rattle.save_fields.specs.Fields.{nth, mode_from, arbiter_from}
use Rattle.save_entries.specs.Entries.{row_from}
use Rattle.save_messages.specs.Messages.{message_from}
use Rattle.save_text.specs.Text.{Spelling, text_in, this_spelling}

-- line i of a text, from 0, and its numbers
abbrev pub line_at : List (List ℕ) → ℕ → List ℕ
line_at ls i = get_or ls i []

unfoldable pub numbers_at : List (List ℕ) → ℕ → List ℕ
numbers_at ls i = numbers_in (line_at ls i)

-- The order of the lines: `sites=`, n lines `set=`, `accepted=`, five lines for each site, three for each arbiter, one for each message.
abbrev pub accepted_line : ℕ → ℕ
accepted_line n = suc n

abbrev pub site_line : ℕ → ℕ → ℕ
site_line n k = n + 2 + 5 * (k - 1)

abbrev pub arbiter_line : ℕ → ℕ → ℕ
arbiter_line n j = 6 * n + 2 + 3 * (j - 1)

abbrev pub message_line : ℕ → ℕ
message_line n = 9 * n + 2

-- `sites=` and `set=` as the player reads them; 0 for another line
abbrev pub or_zero : P.Option ℕ → ℕ
or_zero P.None = 0
or_zero (P.Some n) = n

unfoldable pub size_from : List (List ℕ) → ℕ
size_from ls = or_zero (size_in (meaning_of (line_at ls 0)))

unfoldable pub set_from : List (List ℕ) → ℕ → ℕ
set_from ls k = or_zero (set_in (meaning_of (line_at ls k)))

module _ {A : Type 0} where
  -- what the sites 1 to n have
  unfoldable pub up_to : (ℕ → A) → ℕ → List A
  up_to f zero = []
  up_to f (suc i) = up_to f i ++ (f (suc i) ∷ [])

  -- an array of what the sites 1 to n have; what is past n is blank
  unfoldable pub array_of : A → (ℕ → A) → ℕ → List A
  array_of blank f n = up_to f n ++ replicate (site_limit - n) blank

-- what the lines say, of n sites with these sets
module _ (ls : List (List ℕ)) (n : ℕ) (sets : List ℕ) where
  unfoldable pub site_from : ℕ → Site
  site_from k = record { mode = mode_from (numbers_at ls (site_line n k + 1)); clock = nth (numbers_at ls (site_line n k)) 0 }

  unfoldable pub arbiter_at : ℕ → Arbiter
  arbiter_at j = arbiter_from (nth (numbers_at ls (arbiter_line n j)) 0) (numbers_at ls (arbiter_line n j + 1))

  -- row k of a table of the sites, of which the line is the i-th of site k
  unfoldable pub own_row : ℕ → ℕ → List ℕ
  own_row i k = row_from (has_member sets k) (numbers_at ls (site_line n k + i))

  unfoldable pub queue_row : ℕ → List ℕ
  queue_row j = row_from (λ k. has_member sets k j) (numbers_at ls (arbiter_line n j + 2))

  unfoldable pub tables_of : Tables
  tables_of = record {
    rig = record {
      size = n;
      sets = sets;
      sites = array_of resting_site site_from n;
      arbiters = array_of free_arbiter arbiter_at n;
      accepted = nth (numbers_at ls (accepted_line n)) 0;
    };
    held = array_of blank_row (own_row 2) n;
    heir = array_of blank_row (own_row 3) n;
    inquired = array_of blank_row (own_row 4) n;
    queued = array_of blank_row queue_row n;
  }

unfoldable pub sets_from : List (List ℕ) → List ℕ
sets_from ls = array_of 0 (set_from ls) (size_from ls)

unfoldable pub messages_from : List (List ℕ) → List Message
messages_from ls = map (λ l. message_from (numbers_in l)) (drop (message_line (size_from ls)) ls)

-- the state that a text's lines give; "Reading puts 0 past the messages"
unfoldable pub state_from : List (List ℕ) → Stored
state_from ls = record {
  tables = tables_of ls (size_from ls) (sets_from ls);
  list = padded (messages_from ls);
  count = length (messages_from ls);
}

-- whether a state is well shaped and its text in a version's spelling is this one
unfoldable pub is_text_of : Spelling → List ℕ → Stored → Bool
is_text_of spelling text s = well_shaped s && same (text_in spelling s) text

-- such a state, else none
unfoldable pub accepts : Spelling → List ℕ → Stored → Option Stored
accepts spelling text s = cond (is_text_of spelling text s) (some s) none

-- what a text says
unfoldable pub read_text : List ℕ → Option Stored
read_text text = accepts this_spelling text (state_from (lines_in text))
