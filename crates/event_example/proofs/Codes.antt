-- Each case gets the code listed for it, by calculation. Most cases have the same sets and tables: whether these are well shaped is calculated once.
use Prim.Native.Nat.{ℕ}
use Prim.Native.String.{String}
use mathlib.Core.Path.{◌≡◌, refl}
use mathlib.Core.Bool.{Bool, true, not, ◌&&◌, cond}
use mathlib.Core.List.{List, [], ◌∷◌, ◌++◌, map}
use lib.Dec.{eqb, leb}
use lib.ListN.{length, take}
use Rattle.basics.specs.Helpers.{all, any, first, without_first}
use Rattle.basics.proofs.Basics.{by_bool}
use Rattle.rig.specs.declared.Event.{Event}
use Rattle.rig.specs.Limits.{message_limit, blank_table}
use Rattle.model.specs.Tables.{at, put, cell}
use Rattle.model.specs.Sets.{member, meet, names, contains, strictly_contains, nested}
use Rattle.model.specs.Setup.{size_listed, all_name, meets_earlier, all_meet, unnested_earlier, all_minimal, each_code, meeting_code, setup_code, kept_sets, fresh_rig}
use Rattle.model.specs.State.{fresh_tables, desk_of, with_desk, with_accepted}
use Rattle.model.specs.Priority.{comes_before, head_with, head}
use Rattle.model.specs.Ask.{requests, asked}
use Rattle.model.specs.Leave.{hand_on, hand_ons, left}
use Rattle.model.specs.Arbiter.{head_of, next_heir, granted, granted_head, clock_raised, fail_former, inquire_or_fail, answers, queued_up, on_request, inquire_if_before, head_named, heir_takes_over, holder_releases, from_holder, is_early, early_release, on_release, on_yield}
use Rattle.model.specs.Site.{failed_set, yielded, all_held, entered, taken, entered_or_yielded, takes, on_reply, remembered, yielded_or_remembered, on_inquire, must_yield, yielded_if, yielded_up_to, fail_counts, on_fail, on_transfer}
use Rattle.model.specs.Deliver.{between, delivered}
use Rattle.model.specs.Shape.{is_number, is_given, set_shaped, mode_shaped, site_blank, site_shaped, holder_shaped, arbiter_shaped, place_shaped, rig_shaped, entry_shaped, own_shaped, heir_shaped, queued_shaped, everywhere, number_shaped, plain_shaped, release_shaped, about_shaped, message_shaped, messages_shaped, tables_shaped, well_shaped}
use Rattle.model.specs.Event.{actor, sites_named, taken_off, attempt, attempted, numbers_up_to, numbers_fit, limit_code, padded, accepted_state, judged, event_at, settled, played, tested, event}
use Rattle.model.specs.Run.{fresh}
use Rattle.event_example.specs.States.{site, arbiter, entry, base_sets, base_held, base_heir, base_queued, base_messages, Parts, as_is, rig_with, state_with, base, site_is, arbiter_is, accepted_is, list_is, carries, many, full, size_is, set_is, held_is, heir_is, inquired_is, queued_is, at_limits, alike}
use Rattle.event_example.specs.Cases.{Case, misjudged, Partial, whole, whole_cases, part_cases, spent_cases, cases, RefusalsChangeNothing, ZerosPastTheCount}

-- the tables of numbers, which most cases share
entries_shaped : Bool
entries_shaped =
    everywhere (own_shaped base_sets) base_held
    && (everywhere (heir_shaped base_sets) base_heir && (everywhere (own_shaped base_sets) blank_table && everywhere (queued_shaped base_sets) base_queued))

-- all else of a state
parts_shaped : Parts → Bool
parts_shaped p = leb p.count message_limit && (rig_shaped (rig_with p) && messages_shaped 3 base_sets (take p.count p.list))

-- the code of an event where those are well shaped
code_on : Parts → Event → ℕ
code_on p e = cond (not (eqb (length p.list) message_limit)) 13 (cond (not (parts_shaped p)) 10 (played (state_with p) e).code)

misjudged_on : List Partial → List String
misjudged_on [] = []
misjudged_on (p ∷ ps) = cond (eqb (code_on p.parts p.event) p.code) (misjudged_on ps) (p.name ∷ misjudged_on ps)

module _ (shaped : entries_shaped ≡ true) where
  parts-decide : (p : Parts) → well_shaped (state_with p) ≡ parts_shaped p
  unfolding well_shaped tables_shaped state_with rig_with entries_shaped parts_shaped
  parts-decide p = rw shaped (by_bool (rig_shaped (rig_with p)) (λ a. rw a) (λ a. rw a))

  code-on : (p : Parts) (e : Event) → (event (state_with p) e).code ≡ code_on p e
  unfolding event tested code_on state_with
  code-on p e =
      by_bool (eqb (length p.list) message_limit)
      (λ a. rw (a, parts-decide p) (by_bool (parts_shaped p) (λ b. rw b) (λ b. rw b)))
      (λ a. rw a)

  misjudged-on : (ps : List Partial) → misjudged (map whole ps) ≡ misjudged_on ps
  unfolding misjudged whole misjudged_on
  misjudged-on [] = refl
  misjudged-on (p ∷ ps) = rw (code-on p.parts p.event, misjudged-on ps)

misjudged-append : (xs ys : List Case) → misjudged (xs ++ ys) ≡ misjudged xs ++ misjudged ys
unfolding misjudged
misjudged-append [] ys = refl
misjudged-append (x ∷ xs) ys =
    by_bool (eqb (event x.state x.event).code x.code)
    (λ e. rw e (misjudged-append xs ys))
    (λ e. rw (e, misjudged-append xs ys))

-- what is calculated
calculated :
    (entries_shaped ≡ true)
    × (misjudged whole_cases ≡ []) × (misjudged_on part_cases ≡ []) × (misjudged_on spent_cases ≡ [])
    × RefusalsChangeNothing × ZerosPastTheCount
unfolding at put cell all any first without_first member meet names contains strictly_contains nested size_listed all_name meets_earlier all_meet unnested_earlier all_minimal each_code meeting_code setup_code kept_sets fresh_rig fresh_tables desk_of with_desk with_accepted comes_before head_with head requests asked hand_on hand_ons left head_of next_heir granted granted_head clock_raised fail_former inquire_or_fail answers queued_up on_request inquire_if_before head_named heir_takes_over holder_releases from_holder is_early early_release on_release on_yield failed_set yielded all_held entered taken entered_or_yielded takes on_reply remembered yielded_or_remembered on_inquire must_yield yielded_if yielded_up_to fail_counts on_fail on_transfer between delivered is_number is_given set_shaped mode_shaped site_blank site_shaped holder_shaped arbiter_shaped place_shaped rig_shaped entry_shaped own_shaped heir_shaped queued_shaped everywhere number_shaped plain_shaped release_shaped about_shaped message_shaped messages_shaped tables_shaped well_shaped actor sites_named taken_off attempt attempted numbers_up_to numbers_fit limit_code padded accepted_state judged event_at settled played tested event fresh site arbiter entry base_sets base_held base_heir base_queued base_messages as_is rig_with state_with base site_is arbiter_is accepted_is list_is carries many full size_is set_is held_is heir_is inquired_is queued_is at_limits alike misjudged whole_cases part_cases spent_cases code_on misjudged_on entries_shaped parts_shaped
calculated = (refl, refl, refl, refl, (refl, refl), refl)

-- no case gets another code than the one listed
pub codes : misjudged cases ≡ []
unfolding cases
codes =
    let (shaped, on-whole, on-parts, on-spent, _, _) = calculated in
    rw (misjudged-append, misjudged-append, on-whole, misjudged-on shaped part_cases, on-parts, misjudged-on shaped spent_cases, on-spent)

pub refusals-change-nothing : RefusalsChangeNothing
refusals-change-nothing = calculated.4

pub zeros-past-the-count : ZerosPastTheCount
zeros-past-the-count = calculated.5
