-- `nine_sets`: by the contract of `billiard_set`, and by calculation.
use Rattle.client_families.specs.Rig.{nine_sets}
use Rattle.client_families.proofs.Nine.{set-11, set-34}
use Rattle.client_families.proofs.nine_sets.Goals as goal

pub returns : goal.returns
unfolding nine_sets
returns c = rw (c.billiard_set.ensures, c.billiard_set-2.ensures, set-11, set-34)
