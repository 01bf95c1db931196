-- The sets of each listed family meet and are equally large, so that setup accepts them.
use mathlib.Core.Path.{◌≡◌}
use mathlib.Core.Bool.{true}
use Rattle.family_sets.specs.Rule.{meeting_by}
use Rattle.family_sets.proofs.Rule.{rule-accepted}
use Rattle.family_rules.specs.declared.Family.{Family}
use Rattle.family_rules.specs.declared.Family.TheVariants.{Grid, Billiard, Plane, Levels}
use Rattle.family_rules.specs.Family.{listed, size_of, width_of, members_of, entry, has_site, EquallyLarge, FamilyAccepted}
use Rattle.family_grid.proofs.Accepted as grid
use Rattle.family_billiard.proofs.Accepted as billiard
use Rattle.family_plane.proofs.Accepted as plane
use Rattle.family_levels.proofs.Accepted as levels

meets : (f : Family) → listed f ≡ true → meeting_by (has_site f) (size_of f) ≡ 0
unfolding listed size_of width_of entry
meets (Grid s) h = grid.meets s h
meets (Billiard q) h = billiard.meets q h
meets (Plane p) h = plane.meets p h
meets (Levels a b c) h = levels.meets a b c h

pub equally-large : EquallyLarge
unfolding listed size_of width_of members_of entry
equally-large (Grid s) h n r = grid.equal s h n r
equally-large (Billiard q) h n r = billiard.equal q h n r
equally-large (Plane p) h n r = plane.equal p h n r
equally-large (Levels a b c) h n r = levels.equal a b c h n r

pub accepted : FamilyAccepted
accepted f h = rule-accepted (has_site f) (size_of f) (meets f h) (members_of f) (equally-large f h)
