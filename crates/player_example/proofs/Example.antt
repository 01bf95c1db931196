-- Document 01, "The player": the whole text of the printed example, shown by calculation.
use Prim.Native.Nat.{ℕ}
use Prim.Native.Char.{code}
use Prim.Native.String.{String, [] as []ˢ, ◌∷◌ as ◌∷ˢ◌}
use mathlib.Core.Path.{◌≡◌, refl}
use mathlib.Core.List.{List, [], ◌∷◌, ◌++◌}
use Rattle.model.specs.Tables.{at, put, cell}
use Rattle.basics.specs.Helpers.{all, any, count, lowest, first, without_first}
use Rattle.model.specs.Sets.{member, meet, names, contains, strictly_contains, nested}
use Rattle.model.specs.Setup.{size_listed, all_name, meets_earlier, all_meet, unnested_earlier, all_minimal, each_code, meeting_code, setup_code, kept_sets, fresh_rig}
use Rattle.model.specs.State.{fresh_tables, desk_of, with_desk, with_accepted}
use Rattle.model.specs.Priority.{comes_before, head_with, head}
use Rattle.model.specs.Ask.{requests, asked}
use Rattle.model.specs.Leave.{hand_on, hand_ons, left}
use Rattle.model.specs.Arbiter.{head_of, next_heir, granted, granted_head, clock_raised, fail_former, inquire_or_fail, answers, queued_up, on_request, inquire_if_before, head_named, heir_takes_over, holder_releases, from_holder, is_early, early_release, on_release, on_yield}
use Rattle.model.specs.Site.{failed_set, yielded, all_held, entered, taken, entered_or_yielded, takes, on_reply, remembered, yielded_or_remembered, on_inquire, must_yield, yielded_if, yielded_up_to, fail_counts, on_fail, on_transfer}
use Rattle.model.specs.Deliver.{between, delivered}
use Rattle.model.specs.Shape.{is_number, is_given, set_shaped, mode_shaped, site_blank, site_shaped, holder_shaped, arbiter_shaped, place_shaped, rig_shaped, entry_shaped, own_shaped, heir_shaped, queued_shaped, everywhere, number_shaped, plain_shaped, release_shaped, about_shaped, message_shaped, messages_shaped, tables_shaped, well_shaped}
use Rattle.model.specs.Event.{actor, sites_named, taken_off, attempt, attempted, numbers_up_to, numbers_fit, limit_code, padded, accepted_state, judged, event_at, settled, played, tested, event}
use Rattle.model.specs.Run.{fresh, waiting_count}
use Rattle.player_numbers.specs.Numbers.{all_digits, no_leading_zero, value, number}
use Rattle.player_grammar.specs.Grammar.{longer, parts, before, all_numbers, numbers, ascends, site_bit, with_sites, set_line, one, move_line, starts, form, event_form, meaning_of}
use Rattle.player_bytes.specs.Decimal.{digits, decimal}
use Rattle.player_printing.specs.Printing.{step_line}
use Rattle.player_text.specs.Player.{counted, size_in, set_in, event_in, on_size, all_given, on_set, printed_line, on_event, at_stage, on_line, ends_at, on_end, start, transcript, output}
use Rattle.model.specs.Printed.{inside_up_to, line_of, printed}

-- the bytes of a text of ASCII characters
abbrev to_bytes : String → List ℕ
to_bytes []ˢ = []
to_bytes (c ∷ˢ s) = code c ∷ to_bytes s

-- lines, each with byte 10 behind it
abbrev as_text : List String → List ℕ
as_text [] = []
as_text (line ∷ lines) = to_bytes line ++ (10 ∷ as_text lines)

-- "Input, one line each", and "Output, whole"
pub printed_text :
    output (as_text (
    "sites=2"
    ∷ "set=1"
    ∷ "set=1"
    ∷ "ask=1"
    ∷ "move=1,1"
    ∷ "move=1,1"
    ∷ "ask=2"
    ∷ "move=2,1"
    ∷ "move=1,1"
    ∷ "leave=1"
    ∷ "move=1,2"
    ∷ "move=1,2"
    ∷ "leave=2"
    ∷ "move=2,1"
    ∷ "move=1,1"
    ∷ "move=1,1"
    ∷ []))
    ≡ as_text (
    "step=1 code=0 inside=0 waiting=1 flying=1"
    ∷ "step=2 code=0 inside=0 waiting=1 flying=1"
    ∷ "step=3 code=0 inside=1 waiting=0 flying=0"
    ∷ "step=4 code=0 inside=1 waiting=1 flying=1"
    ∷ "step=5 code=0 inside=1 waiting=1 flying=2"
    ∷ "step=6 code=0 inside=1 waiting=1 flying=1"
    ∷ "step=7 code=0 inside=0 waiting=1 flying=3"
    ∷ "step=8 code=0 inside=0 waiting=1 flying=2"
    ∷ "step=9 code=0 inside=2 waiting=0 flying=1"
    ∷ "step=10 code=0 inside=0 waiting=0 flying=2"
    ∷ "step=11 code=0 inside=0 waiting=0 flying=1"
    ∷ "step=12 code=0 inside=0 waiting=0 flying=0"
    ∷ "step=13 code=7 inside=0 waiting=0 flying=0"
    ∷ [])
unfolding at put cell all any count member meet names contains strictly_contains nested size_listed all_name meets_earlier all_meet unnested_earlier all_minimal each_code meeting_code setup_code kept_sets fresh_rig fresh_tables desk_of with_desk with_accepted comes_before head_with head requests asked hand_on hand_ons left head_of next_heir granted granted_head clock_raised fail_former inquire_or_fail answers queued_up on_request inquire_if_before head_named heir_takes_over holder_releases from_holder is_early early_release on_release on_yield failed_set yielded all_held entered taken entered_or_yielded takes on_reply remembered yielded_or_remembered on_inquire must_yield yielded_if yielded_up_to fail_counts on_fail on_transfer between first without_first delivered is_number is_given set_shaped mode_shaped site_blank site_shaped holder_shaped arbiter_shaped place_shaped rig_shaped entry_shaped own_shaped heir_shaped queued_shaped everywhere number_shaped plain_shaped release_shaped about_shaped message_shaped messages_shaped tables_shaped well_shaped actor sites_named taken_off attempt attempted numbers_up_to numbers_fit limit_code padded accepted_state judged event_at settled played tested event fresh waiting_count lowest inside_up_to line_of printed all_digits no_leading_zero value number longer parts before all_numbers numbers ascends site_bit with_sites set_line one move_line starts form event_form meaning_of digits decimal step_line counted size_in set_in event_in on_size all_given on_set printed_line on_event at_stage on_line ends_at on_end start transcript output
printed_text = refl
