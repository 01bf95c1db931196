-- `askers`: the set of the askers so far.
use mathlib.Core.Path.{refl, ◌∙◌}
use native.Mathlib.Numerals.{add-one}
use native.Mathlib.Omega.{arith}
use Rattle.model.specs.Sets.{set_of}
use Rattle.model.specs.Tables.{at}
use Rattle.family_sets.proofs.Bounds.{set_below}
use Rattle.save_entries.proofs.askers.Goals as goal

pub loop-i-init : goal.loop-i-init
unfolding set_of
loop-i-init c = refl

pub with_site-set-requires : goal.with_site-set-requires
with_site-set-requires c =
    let l = c.loop-i in
    (omega arith, rw l.invariant (set_below _ l.i))

pub loop-i-preserved : goal.loop-i-preserved
unfolding set_of at
loop-i-preserved c =
    let l = c.loop-i in
    c.with_site-set.ensures ∙ rw (c.is_member.ensures, l.invariant, add-one)
