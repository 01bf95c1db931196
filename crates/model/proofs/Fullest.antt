-- A well-shaped state with the largest sum, by calculation: 31 sites, each with all in its set, every inquire remembered, 1,024 requests.
use mathlib.Core.Path.{◌≡◌, refl}
use mathlib.Core.Bool.{true}
use lib.ListN.{replicate}
use Rattle.basics.specs.Helpers.{all, any, count}
use Rattle.rig.specs.Limits.{site_limit, message_limit, blank_table}
use Rattle.rig.specs.Messages.{request}
use Rattle.model.specs.Tables.{at, cell}
use Rattle.model.specs.Sets.{member, set_of, meet, names, contains, strictly_contains, nested}
use Rattle.model.specs.Setup.{size_listed, all_name, meets_earlier, all_meet, unnested_earlier, all_minimal, each_code, meeting_code, setup_code, resting_rig}
use Rattle.model.specs.State.{Stored}
use Rattle.model.specs.Shape.{is_number, is_given, set_shaped, mode_shaped, site_blank, site_shaped, holder_shaped, arbiter_shaped, place_shaped, rig_shaped, entry_shaped, own_shaped, heir_shaped, queued_shaped, everywhere, tables_shaped, number_shaped, plain_shaped, about_shaped, message_shaped, messages_shaped, well_shaped}
use Rattle.model.specs.Settling.{weight, weights, remembered_in, remembered_up_to, remembered_count, measure, measure_limit, MeasureReached}

fullest : Stored
fullest = record {
  tables = record {
    rig = resting_rig site_limit (replicate site_limit (set_of (λ k. true) site_limit));
    held = blank_table;
    heir = blank_table;
    inquired = replicate site_limit (replicate site_limit 1);
    queued = blank_table;
  };
  list = replicate message_limit (request 1 1 1);
  count = message_limit;
}

fullest-shaped : well_shaped fullest ≡ true
unfolding fullest set_of at cell member meet names contains strictly_contains nested any all size_listed all_name meets_earlier all_meet unnested_earlier all_minimal each_code meeting_code setup_code is_number is_given set_shaped mode_shaped site_blank site_shaped holder_shaped arbiter_shaped place_shaped rig_shaped entry_shaped own_shaped heir_shaped queued_shaped everywhere tables_shaped number_shaped plain_shaped about_shaped message_shaped messages_shaped well_shaped
fullest-shaped = refl

fullest-sum : measure fullest ≡ measure_limit
unfolding fullest at count weight weights remembered_in remembered_up_to remembered_count measure
fullest-sum = refl

pub measure-reached : MeasureReached
unfolding MeasureReached
measure-reached = (fullest, fullest-shaped, fullest-sum)
