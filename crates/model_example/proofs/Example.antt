-- Document 01, "The player": the 13 steps of the printed example, shown by calculation.
use Prim.Native.Nat.{ℕ, ◌-◌}
use mathlib.Core.Path.{◌≡◌, refl}
use mathlib.Core.List.{List, [], ◌∷◌}
use lib.ListN.{replicate}
use Rattle.rig.specs.declared.Event.{Event}
use Rattle.rig.specs.declared.Event.TheVariants.{Ask, Leave, Deliver}
use Rattle.rig.specs.Limits.{site_limit, message_limit}
use Rattle.model.specs.Tables.{at, put, cell}
use Rattle.basics.specs.Helpers.{all, any, count, lowest, first, without_first}
use Rattle.model.specs.Sets.{member, meet, names, contains, strictly_contains, nested}
use Rattle.model.specs.Setup.{size_listed, all_name, meets_earlier, all_meet, unnested_earlier, all_minimal, each_code, meeting_code, setup_code, kept_sets, fresh_rig}
use Rattle.model.specs.State.{fresh_tables, desk_of, with_desk, with_accepted}
use Rattle.model.specs.Priority.{comes_before, head_with, head}
use Rattle.model.specs.Ask.{requests, asked}
use Rattle.model.specs.Leave.{hand_on, hand_ons, left}
use Rattle.model.specs.Arbiter.{head_of, next_heir, granted, granted_head, clock_raised, fail_former, inquire_or_fail, answers, queued_up, on_request, inquire_if_before, head_named, heir_takes_over, holder_releases, from_holder, is_early, early_release, on_release, on_yield}
use Rattle.model.specs.Site.{failed_set, yielded, all_held, entered, taken, entered_or_yielded, takes, on_reply, remembered, yielded_or_remembered, on_inquire, must_yield, yielded_if, yielded_up_to, fail_counts, on_fail, on_transfer}
use Rattle.model.specs.Deliver.{between, delivered}
use Rattle.model.specs.Shape.{is_number, is_given, set_shaped, mode_shaped, site_blank, site_shaped, holder_shaped, arbiter_shaped, place_shaped, rig_shaped, entry_shaped, own_shaped, heir_shaped, queued_shaped, everywhere, number_shaped, plain_shaped, release_shaped, about_shaped, message_shaped, messages_shaped, tables_shaped, well_shaped}
use Rattle.model.specs.Event.{actor, sites_named, taken_off, attempt, attempted, numbers_up_to, numbers_fit, limit_code, blank_message, padded, accepted_state, judged, event_at, settled, played, tested, event}
use Rattle.model.specs.Run.{fresh, waiting_count}
use Rattle.model.specs.Printed.{Line, inside_up_to, line_of, printed}

-- step, code, inside, waiting, flying
abbrev line : ℕ → ℕ → ℕ → ℕ → ℕ → Line
line s c i w f = record { step = s; code = c; inside = i; waiting = w; flying = f }

-- "sites=2, set=1, set=1"
abbrev sets : List ℕ
sets = 1 ∷ 1 ∷ replicate (site_limit - 2) 0

abbrev events : List Event
events =
    Ask 1
    ∷ Deliver 1 1
    ∷ Deliver 1 1
    ∷ Ask 2
    ∷ Deliver 2 1
    ∷ Deliver 1 1
    ∷ Leave 1
    ∷ Deliver 1 2
    ∷ Deliver 1 2
    ∷ Leave 2
    ∷ Deliver 2 1
    ∷ Deliver 1 1
    ∷ Deliver 1 1
    ∷ []

pub printed_example :
    printed 1 (fresh 2 sets (replicate message_limit blank_message)) events
    ≡ line 1 0 0 1 1
    ∷ line 2 0 0 1 1
    ∷ line 3 0 1 0 0
    ∷ line 4 0 1 1 1
    ∷ line 5 0 1 1 2
    ∷ line 6 0 1 1 1
    ∷ line 7 0 0 1 3
    ∷ line 8 0 0 1 2
    ∷ line 9 0 2 0 1
    ∷ line 10 0 0 0 2
    ∷ line 11 0 0 0 1
    ∷ line 12 0 0 0 0
    ∷ line 13 7 0 0 0
    ∷ []
unfolding at put cell all any count member meet names contains strictly_contains nested size_listed all_name meets_earlier all_meet unnested_earlier all_minimal each_code meeting_code setup_code kept_sets fresh_rig fresh_tables desk_of with_desk with_accepted comes_before head_with head requests asked hand_on hand_ons left head_of next_heir granted granted_head clock_raised fail_former inquire_or_fail answers queued_up on_request inquire_if_before head_named heir_takes_over holder_releases from_holder is_early early_release on_release on_yield failed_set yielded all_held entered taken entered_or_yielded takes on_reply remembered yielded_or_remembered on_inquire must_yield yielded_if yielded_up_to fail_counts on_fail on_transfer between first without_first delivered is_number is_given set_shaped mode_shaped site_blank site_shaped holder_shaped arbiter_shaped place_shaped rig_shaped entry_shaped own_shaped heir_shaped queued_shaped everywhere number_shaped plain_shaped release_shaped about_shaped message_shaped messages_shaped tables_shaped well_shaped actor sites_named taken_off attempt attempted numbers_up_to numbers_fit limit_code padded accepted_state judged event_at settled played tested event fresh waiting_count lowest inside_up_to line_of printed
printed_example = refl
