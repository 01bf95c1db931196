-- `read_sets`: the sets so far, and 0 behind them.
use Prim.Native.Nat.{ℕ, suc, ◌<◌}
use mathlib.Core.Path.{◌≡◌}
use native.Mathlib.Numerals.{add-one}
use native.Mathlib.Omega.{arith}
use lib.ListN.{replicate}
use lib.Seq.{length-take-le}
use Rattle.rig.specs.Limits.{site_limit}
use Rattle.save_lines.specs.Lines.{lines_in}
use Rattle.save_text.specs.Reading.{set_from}
use Rattle.save_reading.proofs.Places.{start-within}
use Rattle.save_reading.proofs.Arrays.{part_none, part-whole}
use Rattle.save_reading.proofs.Turns.{behind-set, set_more}
use Rattle.save_reading.proofs.read_sets.Goals as goal

pub loop-set-init : goal.loop-set-init
loop-set-init c = (c.requires.0, part_none 0 (set_from (lines_in c.args.text.now)) c.args.n c.requires.1)

pub take_line-taken-requires : goal.take_line-taken-requires
take_line-taken-requires c =
    let l = c.loop-set in
    rw l.invariant.0 (start-within c.args.text.now (suc l.set-index))

pub loop-set-preserved : goal.loop-set-preserved
loop-set-preserved c =
    let l = c.loop-set in
    let i = l.set-index in
    let text = c.args.text.now in
    let taken = c.take_line-taken in
    let here : i < c.args.n = omega (arith, length-take-le {A = ℕ} c.args.n (replicate site_limit 0)) in (
      rw (add-one i) (behind-set text i l.next l.invariant.0 taken.result taken.ensures),
      rw (add-one i) (set_more text i l.next l.invariant.0 taken.result taken.ensures c.args.n here l.set-items c.set_of.result l.invariant.1 c.set_of.ensures),
    )

pub returns : goal.returns
returns c =
    let l = c.loop-set in
    let n = c.args.n in
    let e : l.set-index ≡ n = omega (arith, length-take-le {A = ℕ} n (replicate site_limit 0)) in
    rw (l.invariant.0, l.invariant.1, e, part-whole 0 (set_from (lines_in c.args.text.now)) n)
