-- Texts in parts, by calculation.
use Prim.Native.Nat.{ℕ}
use mathlib.Core.Path.{◌≡◌, refl}
use mathlib.Core.List.{List, [], ◌∷◌, ◌++◌, flatten}
use lib.ListN.{replicate}
use Rattle.basics.specs.Helpers.{all, count, lowest}
use Rattle.model.specs.Tables.{at, put, cell}
use Rattle.model.specs.Sets.{member, names}
use Rattle.model.specs.Setup.{size_listed, all_name, meets_earlier, all_meet, unnested_earlier, all_minimal, each_code, meeting_code, setup_code, kept_sets, fresh_rig}
use Rattle.model.specs.State.{fresh_tables, desk_of, with_desk, with_accepted}
use Rattle.model.specs.Ask.{requests, asked}
use Rattle.model.specs.Shape.{is_number, set_shaped, mode_shaped, site_blank, site_shaped, holder_shaped, arbiter_shaped, place_shaped, rig_shaped, entry_shaped, own_shaped, heir_shaped, queued_shaped, everywhere, messages_shaped, tables_shaped, well_shaped}
use Rattle.model.specs.Event.{actor, sites_named, attempt, attempted, numbers_up_to, numbers_fit, limit_code, padded, accepted_state, judged, event_at, settled, played, tested, event}
use Rattle.model.specs.Run.{fresh, waiting_count}
use Rattle.model.specs.Printed.{inside_up_to, line_of}
use Rattle.player_numbers.specs.Numbers.{all_digits, no_leading_zero, value, number}
use Rattle.player_grammar.specs.Grammar.{longer, parts, before, all_numbers, numbers, ascends, site_bit, with_sites, set_line, one, sites_word, set_word, ask_word, starts, form, event_form, meaning_of}
use Rattle.player_bytes.specs.Decimal.{digits, decimal}
use Rattle.player_printing.specs.Printing.{step_line, stop_line}
use Rattle.player_text.specs.Player.{counted, stopped, size_in, set_in, event_in, on_size, all_given, on_set, printed_line, on_event, at_stage, on_line, ends_at, on_end, start, transcript, output}
use Rattle.player_parts.specs.Parts.{reads, written}

-- `sites=1`, `set=1`, `ask=1`, cut inside the second line and behind its end
abbrev cut : List (List ℕ)
cut =
    (sites_word ++ (49 ∷ 10 ∷ 115 ∷ 101 ∷ []))
    ∷ (116 ∷ 61 ∷ 49 ∷ 10 ∷ [])
    ∷ (ask_word ++ (49 ∷ 10 ∷ []))
    ∷ []

abbrev uncut : List ℕ
uncut = sites_word ++ (49 ∷ 10 ∷ set_word ++ (49 ∷ 10 ∷ ask_word ++ (49 ∷ 10 ∷ [])))

three-lines : (flatten cut ≡ uncut) × (written start [] cut ≡ step_line 1 0 0 1 1) × (output uncut ≡ step_line 1 0 0 1 1)
unfolding flatten at put cell all count member names size_listed all_name meets_earlier all_meet unnested_earlier all_minimal each_code meeting_code setup_code kept_sets fresh_rig fresh_tables desk_of with_desk with_accepted requests asked is_number set_shaped mode_shaped site_blank site_shaped holder_shaped arbiter_shaped place_shaped rig_shaped entry_shaped own_shaped heir_shaped queued_shaped everywhere messages_shaped tables_shaped well_shaped actor sites_named attempt attempted numbers_up_to numbers_fit limit_code padded accepted_state judged event_at settled played tested event fresh waiting_count lowest inside_up_to line_of all_digits no_leading_zero value number longer parts before all_numbers numbers ascends site_bit with_sites set_line one starts form event_form meaning_of counted size_in set_in event_in on_size all_given on_set printed_line on_event at_stage on_line ends_at on_end start transcript output reads written digits decimal step_line
three-lines = (refl, refl, refl)

-- what is kept of a line that a part cuts, up to 96 bytes; byte 97 ends the run, wherever the cuts are
long-line :
    ((reads start [] (replicate 96 97)).line ≡ replicate 96 97)
    × ((reads start [] (replicate 97 97)).line ≡ [])
    × ((reads start [] (replicate 97 97)).said ≡ stop_line 11 1)
    × (written start [] (replicate 60 97 ∷ replicate 60 97 ∷ (10 ∷ []) ∷ []) ≡ stop_line 11 1)
unfolding meaning_of counted stopped size_in on_size at_stage on_line ends_at on_end start reads written digits decimal stop_line
long-line = (refl, refl, refl, refl)
