-- What an inner call that writes lines asks of the page, and what it has done to it.
use Rattle.std.specs.Prelude.{ℕ, ◌+◌, ◌≤◌, List, [], ◌∷◌, length, take, get_or}
use Rattle.rig.specs.declared.Rig.{Rig}
use Rattle.rig.specs.Limits.{HELD, HEIR, INQUIRED}
use Rattle.model.specs.Sets.{member}
use Rattle.model.specs.State.{tables}
use Rattle.player_bytes.specs.Wrote.{Wrote}
use Rattle.save_lines.specs.Lines.{Field, field, fields_text}
use Rattle.save_entries.specs.Entries.{entries}
use Rattle.save_fields.specs.declared.Value.{Value}
use Rattle.save_text.specs.Text.{held_word, heir_word, inquired_word, site_fields, arbiter_fields}

-- the page has room for the lines of these fields, from place p on
pub record Fits (fs : List Field) (p : ℕ) (page : List ℕ) : Type 0 where
  pub room : p + length (fields_text fs) ≤ length page

-- these lines stand on the page from place p on, and nothing else changed; `next` is the place behind them
pub record Puts (fs : List Field) (p : ℕ) (page after : List ℕ) (next : ℕ) : Type 0 where
  pub wrote : Wrote (fields_text fs) p page after next

-- the field of a value, as the code has it
abbrev pub field_of : List ℕ → Value → Field
field_of word v = field word (take v.count v.numbers)

-- the fields of row i of the tables of the sites, at the members of a set
abbrev pub member_lines : ℕ → List (List (List ℕ)) → ℕ → List Field
member_lines set ts i =
    field held_word (entries (member set) (get_or (get_or ts HELD []) i []))
    ∷ field heir_word (entries (member set) (get_or (get_or ts HEIR []) i []))
    ∷ field inquired_word (entries (member set) (get_or (get_or ts INQUIRED []) i []))
    ∷ []

-- the fields of site k and of arbiter k, of what the code has
abbrev pub site_lines : Rig → List (List (List ℕ)) → ℕ → List Field
site_lines g ts k = site_fields (tables g ts) k

abbrev pub arbiter_lines : Rig → List (List (List ℕ)) → ℕ → List Field
arbiter_lines g ts k = arbiter_fields (tables g ts) k
