-- `plane_table::plane5` meets its contract: the table is compared with the rule once, over all 186 members, by computation.
use mathlib.Core.Path.{refl}
use Rattle.family_plane.specs.Plane.{plane_entry, first_matrix, other_matrix}
use Rattle.family_plane_table.specs.Table.{members_from}
use Rattle.family_plane_table.proofs.plane5.Goals as goal

pub returns : goal.returns
unfolding plane_entry first_matrix other_matrix members_from
returns c = refl
