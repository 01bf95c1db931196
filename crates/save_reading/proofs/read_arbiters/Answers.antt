-- `read_arbiters`: the arbiters and the rows so far, and blanks behind them.
use Prim.Native.Nat.{◌+◌, ◌*◌, ◌<◌}
use mathlib.Core.Path.{◌≡◌}
use native.Mathlib.Numerals.{add-one}
use native.Mathlib.Omega.{arith}
use lib.ListN.{replicate}
use lib.Seq.{length-take-le}
use Rattle.rig.specs.Limits.{site_limit}
use Rattle.rig.specs.declared.Arbiter.{Arbiter}
use Rattle.model.specs.Setup.{free_arbiter}
use Rattle.save_lines.specs.Lines.{lines_in}
use Rattle.save_text.specs.Reading.{arbiter_at, message_line, up_to, array_of}
use Rattle.save_taking.specs.Places.{place_behind}
use Rattle.save_taking.proofs.Places.{behind-within}
use Rattle.save_reading.proofs.Places.{start-within}
use Rattle.save_reading.proofs.Arrays.{part_none, part-whole}
use Rattle.save_reading.proofs.Turns.{behind-arbiter, arbiter-more, queue-more}
use Rattle.save_reading.proofs.read_arbiters.Goals as goal

pub loop-i-init : goal.loop-i-init
unfolding up_to array_of
loop-i-init c = (c.requires.0, part_none free_arbiter (arbiter_at (lines_in c.args.text.now) c.args.n c.args.sets.now) c.args.n c.requires.1, c.requires.2)

pub take_arbiter-taken-requires : goal.take_arbiter-taken-requires
take_arbiter-taken-requires c =
    let l = c.loop-i in
    let a = c.args in
    rw l.invariant.0 (start-within a.text.now (6 * a.n + 2 + 3 * l.i))

pub take_queue-next-requires : goal.take_queue-next-requires
take_queue-next-requires c =
    let l = c.loop-i in
    let text = c.args.text.now in
    (rw c.take_arbiter-taken.ensures (behind-within text (place_behind text l.next)), omega (arith, length-take-le {A = Arbiter} c.args.n (replicate site_limit free_arbiter)), rw l.invariant.2)

pub loop-i-preserved : goal.loop-i-preserved
loop-i-preserved c =
    let l = c.loop-i in
    let a = c.args in
    let text = a.text.now in
    let sets = a.sets.now in
    let arbiter = c.take_arbiter-taken.ensures in
    let asking = c.askers-set in
    let inside : l.i < a.n = omega (arith, length-take-le {A = Arbiter} a.n (replicate site_limit free_arbiter)) in
    let here : l.i < site_limit = omega arith in (
      rw (c.take_queue-next.ensures.value, arbiter, add-one l.i) (behind-arbiter text a.n sets l.i here l.next l.invariant.0),
      rw (arbiter, add-one l.i) (arbiter-more text a.n sets l.i here l.next l.invariant.0 inside l.arbiter-items l.invariant.1),
      rw (c.take_queue-next.ensures.tables_after, arbiter, add-one l.i)
          (queue-more text a.n sets l.i here l.next l.invariant.0 l.tables asking.result l.invariant.2 (rw (add-one l.i) at asking.ensures)),
    )

pub returns : goal.returns
returns c =
    let l = c.loop-i in
    let n = c.args.n in
    let e : l.i ≡ n = omega (arith, length-take-le {A = Arbiter} n (replicate site_limit free_arbiter)) in
    let behind : 6 * n + 2 + 3 * n ≡ message_line n = omega arith in
    record {
      value = rw (l.invariant.0, l.invariant.1, e, behind, part-whole free_arbiter (arbiter_at (lines_in c.args.text.now) n c.args.sets.now) n);
      tables_after = rw (l.invariant.2, e);
    }
