-- `read_sites`: the sites and the rows so far, and blanks behind them.
use Prim.Native.Nat.{◌+◌, ◌*◌, ◌<◌}
use mathlib.Core.Path.{◌≡◌}
use native.Mathlib.Numerals.{add-one}
use native.Mathlib.Omega.{arith}
use lib.ListN.{replicate}
use lib.Seq.{length-take-le}
use Rattle.rig.specs.Limits.{site_limit}
use Rattle.rig.specs.declared.Site.{Site}
use Rattle.model.specs.Setup.{resting_site}
use Rattle.save_lines.specs.Lines.{lines_in}
use Rattle.save_text.specs.Reading.{site_from, arbiter_line, up_to, array_of}
use Rattle.save_taking.specs.Places.{place_behind}
use Rattle.save_taking.proofs.Places.{behind-within}
use Rattle.save_reading.proofs.Places.{start-within}
use Rattle.save_reading.proofs.Arrays.{part_none, part-whole}
use Rattle.save_reading.proofs.Turns.{behind-site, site-more, own-more}
use Rattle.save_reading.proofs.read_sites.Goals as goal

pub loop-i-init : goal.loop-i-init
unfolding up_to array_of
loop-i-init c = (c.requires.0, part_none resting_site (site_from (lines_in c.args.text.now) c.args.n c.args.sets.now) c.args.n c.requires.1, c.requires.2)

pub take_site-taken-requires : goal.take_site-taken-requires
take_site-taken-requires c =
    let l = c.loop-i in
    let a = c.args in
    rw l.invariant.0 (start-within a.text.now (a.n + 2 + 5 * l.i))

pub take_rows-next-requires : goal.take_rows-next-requires
take_rows-next-requires c =
    let l = c.loop-i in
    let text = c.args.text.now in
    (rw c.take_site-taken.ensures (behind-within text (place_behind text l.next)), omega (arith, length-take-le {A = Site} c.args.n (replicate site_limit resting_site)), rw l.invariant.2)

pub loop-i-preserved : goal.loop-i-preserved
loop-i-preserved c =
    let l = c.loop-i in
    let a = c.args in
    let text = a.text.now in
    let sets = a.sets.now in
    let site = c.take_site-taken.ensures in
    let inside : l.i < a.n = omega (arith, length-take-le {A = Site} a.n (replicate site_limit resting_site)) in
    let here : l.i < site_limit = omega arith in (
      rw (c.take_rows-next.ensures.value, site, add-one l.i) (behind-site text a.n sets l.i here l.next l.invariant.0),
      rw (site, add-one l.i) (site-more text a.n sets l.i here l.next l.invariant.0 inside l.site-items l.invariant.1),
      rw (c.take_rows-next.ensures.tables_after, site, add-one l.i) (own-more text a.n sets l.i here l.next l.invariant.0 l.tables l.invariant.2),
    )

pub returns : goal.returns
returns c =
    let l = c.loop-i in
    let n = c.args.n in
    let e : l.i ≡ n = omega (arith, length-take-le {A = Site} n (replicate site_limit resting_site)) in
    let behind : n + 2 + 5 * n ≡ arbiter_line n 1 = omega arith in
    record {
      value = rw (l.invariant.0, l.invariant.1, e, behind, part-whole resting_site (site_from (lines_in c.args.text.now) n c.args.sets.now) n);
      tables_after = rw (l.invariant.2, e);
    }
