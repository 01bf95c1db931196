-- `put_sets`: the lines of the sets so far.
use mathlib.Core.Path.{◌≡◌}
use native.Mathlib.Numerals.{add-one}
use native.Mathlib.Omega.{arith}
use lib.Seq.{get_or-take, length-take-le}
use Prim.Native.Nat.{◌<◌}
use Rattle.model.specs.Tables.{at}
use Rattle.save_writing.specs.Lines.{set_lines}
use Rattle.save_writing.proofs.Each.{each_none, each_fits, each_more}
use Rattle.save_writing.proofs.put_sets.Goals as goal

pub loop-set-init : goal.loop-set-init
loop-set-init c = each_none _

pub put_set-next-requires : goal.put_set-next-requires
unfolding at
put_set-next-requires c =
    let i = c.loop-set.set-index in
    let a = c.args in
    let sets = a.sets.now in
    let h : i < a.n = omega (arith, length-take-le a.n sets) in
    rw (← get_or-take a.n sets i 0 h) at (each_fits (set_lines sets) i a.n h c.requires.1 c.loop-set.invariant)

pub loop-set-preserved : goal.loop-set-preserved
unfolding at
loop-set-preserved c =
    let i = c.loop-set.set-index in
    let a = c.args in
    let sets = a.sets.now in
    let h : i < a.n = omega (arith, length-take-le a.n sets) in
    rw (add-one i) (each_more (set_lines sets) i c.loop-set.invariant (rw (get_or-take a.n sets i 0 h) at c.put_set-next.ensures))

pub returns : goal.returns
returns c =
    let a = c.args in
    let e : c.loop-set.set-index ≡ a.n = omega (arith, length-take-le a.n a.sets.now) in
    rw e at c.loop-set.invariant
