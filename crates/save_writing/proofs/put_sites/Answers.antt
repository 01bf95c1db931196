-- `put_sites`: the lines of the sites so far.
use mathlib.Core.Path.{◌≡◌}
use native.Mathlib.Numerals.{add-one}
use native.Mathlib.Omega.{arith}
use Rattle.save_putting.specs.Puts.{site_lines}
use Rattle.save_writing.proofs.Each.{each_none, each_fits, each_more}
use Rattle.save_writing.proofs.put_sites.Goals as goal

pub loop-i-init : goal.loop-i-init
loop-i-init c = each_none _

pub put_site-next-requires : goal.put_site-next-requires
put_site-next-requires c =
    let l = c.loop-i in
    let a = c.args in
    let f = site_lines a.rig a.tables.now in
    (omega arith, each_fits f l.i a.n (omega arith) c.requires.1 l.invariant)

pub loop-i-preserved : goal.loop-i-preserved
loop-i-preserved c =
    let l = c.loop-i in
    let a = c.args in
    let f = site_lines a.rig a.tables.now in
    rw (add-one l.i) (each_more f l.i l.invariant c.put_site-next.ensures)

pub returns : goal.returns
returns c =
    let l = c.loop-i in
    let e : l.i ≡ c.args.n = omega arith in
    rw e at l.invariant
