-- `families::fill` meets its contract. The loop's invariant: the first i entries are the sets of sites 1 to i.
use Prim.Native.Nat.{◌+◌}
use mathlib.Core.Path.{refl}
use native.Mathlib.Omega.{arith}
use lib.ListN.{length-set}
use Rattle.family_sets.specs.Rule.{sets_up_to}
use Rattle.family_sets.proofs.Rule.{filled_more, filled-all}
use Rattle.families.proofs.fill.Goals as goal

pub loop-i-init : goal.loop-i-init
unfolding sets_up_to
loop-i-init g c = (omega arith, c.requires.long, λ t s h. refl)

pub loop-i-preserved : goal.loop-i-preserved
loop-i-preserved g c =
    let l = c.loop-i in
    (omega arith, simp length-set l.invariant.1, λ t s h. filled_more t s l.sets l.i _ (omega arith) (l.invariant.2 t s h) (h (l.i + 1) _ (omega arith) c.set_of.ensures))

pub returns : goal.returns
returns g c = λ t s h. let l = c.loop-i in filled-all t s l.sets l.i l.invariant.1 l.invariant.0 (omega arith) (l.invariant.2 t s h)
