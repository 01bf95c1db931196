-- A saved text by calculation: document 01's printed example, in the middle of its run.
use Prim.Native.Nat.{ℕ, ◌-◌}
use Prim.Native.Char.{code}
use Prim.Native.String.{String, [] as []ˢ, ◌∷◌ as ◌∷ˢ◌}
use mathlib.Core.Path.{◌≡◌, refl}
use mathlib.Core.List.{List, [], ◌∷◌, ◌++◌}
use lib.ListN.{replicate}
use Rattle.rig.specs.declared.Event.{Event}
use Rattle.rig.specs.declared.Event.TheVariants.{Ask, Leave, Deliver}
use Rattle.rig.specs.Limits.{site_limit, message_limit}
use Rattle.model.specs.Tables.{at, put, cell}
use Rattle.basics.specs.Helpers.{all, any, count, lowest, first, without_first}
use Rattle.model.specs.Sets.{member, meet, names, contains, strictly_contains, nested}
use Rattle.model.specs.Setup.{size_listed, all_name, meets_earlier, all_meet, unnested_earlier, all_minimal, each_code, meeting_code, setup_code, kept_sets, fresh_rig}
use Rattle.model.specs.State.{Stored, fresh_tables, desk_of, with_desk, with_accepted}
use Rattle.model.specs.Priority.{comes_before, head_with, head}
use Rattle.model.specs.Ask.{requests, asked}
use Rattle.model.specs.Leave.{hand_on, hand_ons, left}
use Rattle.model.specs.Arbiter.{head_of, next_heir, granted, granted_head, clock_raised, fail_former, inquire_or_fail, answers, queued_up, on_request, inquire_if_before, head_named, heir_takes_over, holder_releases, from_holder, is_early, early_release, on_release, on_yield}
use Rattle.model.specs.Site.{failed_set, yielded, all_held, entered, taken, entered_or_yielded, takes, on_reply, remembered, yielded_or_remembered, on_inquire, must_yield, yielded_if, yielded_up_to, on_fail, on_transfer}
use Rattle.model.specs.Deliver.{between, delivered}
use Rattle.model.specs.Shape.{is_number, is_given, set_shaped, mode_shaped, site_blank, site_shaped, holder_shaped, arbiter_shaped, place_shaped, rig_shaped, entry_shaped, own_shaped, heir_shaped, queued_shaped, everywhere, number_shaped, plain_shaped, release_shaped, about_shaped, message_shaped, messages_shaped, tables_shaped, well_shaped}
use Rattle.model.specs.Event.{actor, sites_named, taken_off, attempt, attempted, numbers_up_to, numbers_fit, limit_code, blank_message, padded, accepted_state, judged, event_at, settled, played, tested, event}
use Rattle.model.specs.Run.{fresh, run}
use Rattle.player_bytes.specs.Decimal.{digits, decimal}
use Rattle.rig_members.specs.Walk.{members_up_to}
use Rattle.plan_lines.specs.Lines.{list_text}
use Rattle.save_lines.specs.Lines.{field_text, fields_text}
use Rattle.save_fields.specs.Fields.{mode_numbers, holder_numbers}
use Rattle.save_entries.specs.Entries.{entries_up_to, entries}
use Rattle.save_messages.specs.Messages.{has_about, numbers_with, message_numbers}
use Rattle.save_text.specs.Text.{each_up_to, sites_field, set_field, accepted_field, fields_in, text_in, site_fields, arbiter_fields, message_field, this_spelling, text_of}

-- the bytes of a text of ASCII characters
abbrev to_bytes : String → List ℕ
to_bytes []ˢ = []
to_bytes (c ∷ˢ s) = code c ∷ to_bytes s

-- lines, each with byte 10 behind it
abbrev as_text : List String → List ℕ
as_text [] = []
as_text (line ∷ lines) = to_bytes line ++ (10 ∷ as_text lines)

-- the first seven events of document 01's printed example: `sites=2, set=1, set=1`, up to `leave=1`
abbrev sets : List ℕ
sets = 1 ∷ 1 ∷ replicate (site_limit - 2) 0

abbrev events : List Event
events = Ask 1 ∷ Deliver 1 1 ∷ Deliver 1 1 ∷ Ask 2 ∷ Deliver 2 1 ∷ Deliver 1 1 ∷ Leave 1 ∷ []

abbrev saved : Stored
saved = run (fresh 2 sets (replicate message_limit blank_message)) events

abbrev saved_lines : List String
saved_lines =
    "sites=2"
    ∷ "set=1"
    ∷ "set=1"
    ∷ "accepted=7"
    ∷ "clock=1"
    ∷ "mode=0"
    ∷ "held=0"
    ∷ "heir=0"
    ∷ "inquired=0"
    ∷ "clock=1"
    ∷ "mode=1,1,0"
    ∷ "held=0"
    ∷ "heir=0"
    ∷ "inquired=0"
    ∷ "grant=1"
    ∷ "holder=1,1"
    ∷ "queued=0,1"
    ∷ "grant=0"
    ∷ "holder=0"
    ∷ "queued="
    ∷ "message=5,1,2,1"
    ∷ "message=2,1,2,1,2"
    ∷ "message=3,1,1,2,1"
    ∷ []

pub text_saved : text_of saved ≡ as_text saved_lines
unfolding at put cell all any count lowest first without_first member meet names contains strictly_contains nested size_listed all_name meets_earlier all_meet unnested_earlier all_minimal each_code meeting_code setup_code kept_sets fresh_rig fresh_tables desk_of with_desk with_accepted comes_before head_with head requests asked hand_on hand_ons left head_of next_heir granted granted_head clock_raised fail_former inquire_or_fail answers queued_up on_request inquire_if_before head_named heir_takes_over holder_releases from_holder is_early early_release on_release on_yield failed_set yielded all_held entered taken entered_or_yielded takes on_reply remembered yielded_or_remembered on_inquire must_yield yielded_if yielded_up_to on_fail on_transfer between delivered is_number is_given set_shaped mode_shaped site_blank site_shaped holder_shaped arbiter_shaped place_shaped rig_shaped entry_shaped own_shaped heir_shaped queued_shaped everywhere number_shaped plain_shaped release_shaped about_shaped message_shaped messages_shaped tables_shaped well_shaped actor sites_named taken_off attempt attempted numbers_up_to numbers_fit limit_code padded accepted_state judged event_at settled played tested event fresh run digits decimal members_up_to list_text field_text fields_text mode_numbers holder_numbers entries_up_to entries has_about numbers_with message_numbers each_up_to sites_field set_field accepted_field fields_in text_in site_fields arbiter_fields message_field this_spelling text_of
text_saved = refl
