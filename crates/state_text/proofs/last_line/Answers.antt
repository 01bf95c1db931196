-- `last_line`: the present line begins at the byte behind the end of a line; at the end nothing is left.
use mathlib.Core.Bool.{cond}
use mathlib.Core.Path.{◌≡◌, sym, ◌∙◌}
use native.Mathlib.Omega.{arith}
use Rattle.state_text.proofs.LastLines.{start-within, last-begun, last_more, last_done}
use Rattle.state_text.proofs.last_line.Goals as goal
use Rattle.state_text.proofs.last_line.Goals.{then-ended, else-ended}

pub loop-i-init : goal.loop-i-init
loop-i-init c = (omega arith, last-begun _)

pub loop-i-preserved : goal.loop-i-preserved
loop-i-preserved c =
    let l = c.loop-i in
    let s : c.if-ended.start ≡ cond l.ended l.i l.start =
    elim c.if-ended.branch [ then-ended w ↦ rw (w.start-is, w.if-ended.true) | else-ended w ↦ rw (w.start-is, w.if-ended.false) ] in
    let w = start-within l.ended l.start l.i l.invariant.0 in
    (rw s (omega arith), rw s (sym (last_more c.args.bytes.now l.start l.i l.ended l.invariant.0 (omega arith)) ∙ l.invariant.1))

pub returns-clause-bytes_value : goal.returns-clause-bytes_value
returns-clause-bytes_value c =
    let l = c.loop-i in
    sym (last_done c.args.bytes.now l.start l.i l.ended l.invariant.0 (omega arith)) ∙ l.invariant.1
