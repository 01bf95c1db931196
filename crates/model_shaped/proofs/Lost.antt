-- The state whose arbiter has not granted, by calculation.
use mathlib.Core.Path.{refl}
use Rattle.basics.specs.Helpers.{all, first, without_first}
use Rattle.model.specs.Tables.{at, put, cell}
use Rattle.model.specs.Sets.{member, names}
use Rattle.model.specs.Setup.{size_listed, all_name, meets_earlier, all_meet, unnested_earlier, all_minimal, each_code, meeting_code, setup_code}
use Rattle.model.specs.State.{desk_of, with_desk, with_accepted}
use Rattle.model.specs.Priority.{comes_before, head_with, head}
use Rattle.model.specs.Arbiter.{head_of, clock_raised, fail_former, inquire_or_fail, answers, queued_up, on_request}
use Rattle.model.specs.Deliver.{between, delivered}
use Rattle.model.specs.Shape.{is_number, is_given, set_shaped, mode_shaped, site_blank, site_shaped, holder_shaped, arbiter_shaped, place_shaped, rig_shaped, entry_shaped, own_shaped, heir_shaped, queued_shaped, everywhere, number_shaped, plain_shaped, about_shaped, message_shaped, messages_shaped, tables_shaped, well_shaped}
use Rattle.model.specs.Event.{actor, sites_named, taken_off, attempt, attempted, numbers_up_to, numbers_fit, limit_code, padded, accepted_state, judged, event_at, settled, played, tested, event}
use Rattle.model_shaped.specs.Kept.{not_granted, ShapeLost}

pub shape-lost : ShapeLost
unfolding at put cell all first without_first member names size_listed all_name meets_earlier all_meet unnested_earlier all_minimal each_code meeting_code setup_code desk_of with_desk with_accepted comes_before head_with head head_of clock_raised fail_former inquire_or_fail answers queued_up on_request between delivered is_number is_given set_shaped mode_shaped site_blank site_shaped holder_shaped arbiter_shaped place_shaped rig_shaped entry_shaped own_shaped heir_shaped queued_shaped everywhere number_shaped plain_shaped about_shaped message_shaped messages_shaped tables_shaped well_shaped actor sites_named taken_off attempt attempted numbers_up_to numbers_fit limit_code padded accepted_state judged event_at settled played tested event not_granted ShapeLost
shape-lost = (refl, refl, refl)
