-- Request 2.2: "Write a state as key=value lines in one fixed order ... Keys run: sites, each set, accepted, each site's fields, each arbiter's
-- fields, each message." docs/TEXT.md has the spelling.
use Rattle.std.specs.Prelude.{ℕ, zero, suc, not, List, [], ◌∷◌, ◌++◌, map, eqb}
use Rattle.rig.specs.declared.Message.{Message}
use Rattle.rig.specs.Limits.{site_limit}
use Rattle.rig.specs.Messages.{FAIL}
use Rattle.model.specs.Tables.{at}
use Rattle.model.specs.State.{Tables, Stored, under_way, size_of, sets_of, has_member, site_of, arbiter_of}
use Rattle.player_grammar.specs.Grammar.{sites_word, set_word}
use Rattle.rig_members.specs.Walk.{members_up_to}
use Rattle.save_lines.specs.Lines.{Field, field, fields_text}
use Rattle.save_fields.specs.Fields.{mode_numbers, holder_numbers}
use Rattle.save_entries.specs.Entries.{entries}
use Rattle.save_messages.specs.Messages.{numbers_with, message_numbers}

-- `accepted=`, `clock=`, `mode=`, `held=`, `heir=`, `inquired=`, `grant=`, `holder=`, `queued=`, `message=`
abbrev pub accepted_word : List ℕ
accepted_word = 97 ∷ 99 ∷ 99 ∷ 101 ∷ 112 ∷ 116 ∷ 101 ∷ 100 ∷ 61 ∷ []

abbrev pub clock_word : List ℕ
clock_word = 99 ∷ 108 ∷ 111 ∷ 99 ∷ 107 ∷ 61 ∷ []

abbrev pub mode_word : List ℕ
mode_word = 109 ∷ 111 ∷ 100 ∷ 101 ∷ 61 ∷ []

abbrev pub held_word : List ℕ
held_word = 104 ∷ 101 ∷ 108 ∷ 100 ∷ 61 ∷ []

abbrev pub heir_word : List ℕ
heir_word = 104 ∷ 101 ∷ 105 ∷ 114 ∷ 61 ∷ []

abbrev pub inquired_word : List ℕ
inquired_word = 105 ∷ 110 ∷ 113 ∷ 117 ∷ 105 ∷ 114 ∷ 101 ∷ 100 ∷ 61 ∷ []

abbrev pub grant_word : List ℕ
grant_word = 103 ∷ 114 ∷ 97 ∷ 110 ∷ 116 ∷ 61 ∷ []

abbrev pub holder_word : List ℕ
holder_word = 104 ∷ 111 ∷ 108 ∷ 100 ∷ 101 ∷ 114 ∷ 61 ∷ []

abbrev pub queued_word : List ℕ
queued_word = 113 ∷ 117 ∷ 101 ∷ 117 ∷ 101 ∷ 100 ∷ 61 ∷ []

abbrev pub message_word : List ℕ
message_word = 109 ∷ 101 ∷ 115 ∷ 115 ∷ 97 ∷ 103 ∷ 101 ∷ 61 ∷ []

-- What a version of the text writes for a site, for an arbiter and for a message. The rest is the same in every version.
pub record Spelling : Type 0 where
  pub site : Tables → ℕ → List Field
  pub arbiter : Tables → ℕ → List Field
  pub message : Message → Field

-- the fields of the sites 1 to n, one site after the other
unfoldable pub each_up_to : (ℕ → List Field) → ℕ → List Field
each_up_to f zero = []
each_up_to f (suc i) = each_up_to f i ++ f (suc i)

-- as the player reads them: `sites=N`, and a set by its members
unfoldable pub sites_field : ℕ → Field
sites_field n = field sites_word (n ∷ [])

unfoldable pub set_field : ℕ → Field
set_field set = field set_word (members_up_to set site_limit)

unfoldable pub accepted_field : ℕ → Field
accepted_field n = field accepted_word (n ∷ [])

-- the fields of a state, in their order
unfoldable pub fields_in : Spelling → Stored → List Field
fields_in spelling s =
    let t = s.tables in
    let n = size_of t in
    sites_field n
    ∷ (each_up_to (λ k. set_field (at 0 (sets_of t) k) ∷ []) n
    ++ (accepted_field t.rig.accepted
    ∷ (each_up_to (spelling.site t) n
    ++ (each_up_to (spelling.arbiter t) n
    ++ map spelling.message (under_way s)))))

-- the text of a state, in a version's spelling
unfoldable pub text_in : Spelling → Stored → List ℕ
text_in spelling s = fields_text (fields_in spelling s)

-- The fields of this version.

-- site k: its clock, its mode, and for each member, ascending, the number held, the heir, the remembered inquire's number
unfoldable pub site_fields : Tables → ℕ → List Field
site_fields t k =
    field clock_word ((site_of t k).clock ∷ [])
    ∷ field mode_word (mode_numbers (site_of t k).mode)
    ∷ field held_word (entries (has_member (sets_of t) k) (at [] t.held k))
    ∷ field heir_word (entries (has_member (sets_of t) k) (at [] t.heir k))
    ∷ field inquired_word (entries (has_member (sets_of t) k) (at [] t.inquired k))
    ∷ []

-- arbiter j: its grant number, its holder, and for each site that has j in its set, ascending, the sequence number queued
unfoldable pub arbiter_fields : Tables → ℕ → List Field
arbiter_fields t j =
    field grant_word ((arbiter_of t j).grant ∷ [])
    ∷ field holder_word (holder_numbers (arbiter_of t j))
    ∷ field queued_word (entries (λ k. has_member (sets_of t) k j) (at [] t.queued j))
    ∷ []

unfoldable pub message_field : Message → Field
message_field m = field message_word (message_numbers m)

unfoldable pub this_spelling : Spelling
this_spelling = record { site = site_fields; arbiter = arbiter_fields; message = message_field }

-- the text of a state
unfoldable pub text_of : Stored → List ℕ
text_of s = text_in this_spelling s

-- Request 2.2's version: no fail has a number.
unfoldable pub first_message_field : Message → Field
first_message_field m = field message_word (numbers_with m (not (eqb m.kind FAIL)))

unfoldable pub first_spelling : Spelling
first_spelling = record { site = site_fields; arbiter = arbiter_fields; message = first_message_field }
