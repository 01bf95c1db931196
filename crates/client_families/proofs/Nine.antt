-- The two sets of the billiard of q = 9, by calculation.
use mathlib.Core.Path.{◌≡◌}
use lib.ListN.{get_or}
use Rattle.basics.specs.Helpers.{any}
use Rattle.model.specs.Sets.{set_of}
use Rattle.family_billiard.specs.Billiard.{q_computed}
use Rattle.family_billiard.proofs.Accepted.{nine-site-11, nine-site-34}
use Rattle.family_rules.specs.Family.{computed, size_of, width_of, entry}
use Rattle.families.specs.Made.{billiard_set}
use Rattle.client_families.specs.Rig.{of_sites, nine_sets}

pub set-11 : billiard_set 9 11 ≡ get_or nine_sets 0 0
unfolding any set_of computed q_computed size_of width_of entry billiard_set of_sites nine_sets
set-11 = nine-site-11

pub set-34 : billiard_set 9 34 ≡ get_or nine_sets 1 0
unfolding any set_of computed q_computed size_of width_of entry billiard_set of_sites nine_sets
set-34 = nine-site-34
