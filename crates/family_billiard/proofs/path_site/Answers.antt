-- `billiard::path_site` meets its contract. The loop's invariant: x is the site after k steps.
use Prim.Native.Nat.{◌-◌}
use mathlib.Core.Path.{◌∙◌}
use native.Mathlib.Nat.{le_antisymm}
use native.Mathlib.Numerals.{add-one}
use native.Mathlib.Omega.{arith}
use Rattle.family_billiard.specs.Billiard.{path_site}
use Rattle.family_billiard.proofs.Steps.{step_fits_lem}
use Rattle.family_billiard.proofs.path_site.Goals as goal

pub loop-k-init : goal.loop-k-init
unfolding path_site
loop-k-init c = (omega arith, c.first_site-x.ensures)

pub next_site-x-requires : goal.next_site-x-requires
next_site-x-requires c =
    let l = c.requires in
    (l.0, rw (c.loop-k.invariant.1, add-one) (step_fits_lem _ _ _ c.loop-k.k l.0 (omega arith)))

pub loop-k-preserved : goal.loop-k-preserved
unfolding path_site
loop-k-preserved c = (omega arith, c.next_site-x.ensures ∙ rw (c.loop-k.invariant.1, add-one))

pub returns : goal.returns
returns c = rw (le_antisymm c.loop-k.invariant.0 c.loop-k-test.false) at c.loop-k.invariant.1
