-- `put_messages`: the lines of the messages so far.
use mathlib.Core.List.{[]}
use mathlib.Core.Path.{◌≡◌}
use native.Mathlib.Numerals.{add-one}
use native.Mathlib.Omega.{arith}
use lib.Seq.{get_or-take, length-take-le}
use Prim.Native.Nat.{◌<◌}
use Rattle.model.specs.Tables.{at}
use Rattle.save_writing.specs.Lines.{message_lines}
use Rattle.save_writing.proofs.Each.{each_none, each_fits, each_more}
use Rattle.save_writing.proofs.put_messages.Goals as goal

pub loop-row-init : goal.loop-row-init
loop-row-init c = each_none _

pub put_message-next-requires : goal.put_message-next-requires
unfolding at
put_message-next-requires c =
    let i = c.loop-row.row-index in
    let a = c.args in
    let list = a.list.now in
    let h : i < a.count = omega (arith, length-take-le a.count list) in
    rw (← get_or-take a.count list i [] h) at (each_fits (message_lines list) i a.count h c.requires.1 c.loop-row.invariant)

pub loop-row-preserved : goal.loop-row-preserved
unfolding at
loop-row-preserved c =
    let i = c.loop-row.row-index in
    let a = c.args in
    let list = a.list.now in
    let h : i < a.count = omega (arith, length-take-le a.count list) in
    rw (add-one i) (each_more (message_lines list) i c.loop-row.invariant (rw (get_or-take a.count list i [] h) at c.put_message-next.ensures))

pub returns : goal.returns
returns c =
    let a = c.args in
    let e : c.loop-row.row-index ≡ a.count = omega (arith, length-take-le a.count a.list.now) in
    rw e at c.loop-row.invariant
