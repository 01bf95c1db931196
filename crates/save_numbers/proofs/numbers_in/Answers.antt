-- `numbers_in`: what is left to read behind the bytes so far.
use mathlib.Core.Path.{refl, sym, ◌∙◌}
use native.Mathlib.Omega.{arith}
use Rattle.save_lines.specs.Lines.{numbers_in}
use Rattle.save_numbers.proofs.Turns.{comma-read, byte-read, line_read}
use Rattle.save_numbers.proofs.numbers_in.Goals as goal
use Rattle.save_numbers.proofs.numbers_in.Goals.{then-b-eq-COMMA, else-b-eq-COMMA}

pub loop-b-init : goal.loop-b-init
unfolding numbers_in
loop-b-init c = (omega arith, refl)

pub loop-b-preserved : goal.loop-b-preserved
loop-b-preserved c =
    let l = c.loop-b in
    let line = c.args.line.now in
    elim c.if-b-eq-COMMA.branch [
      | then-b-eq-COMMA w ↦
          (let read = comma-read l.numbers l.i line l.b-index (omega arith) w.if-b-eq-COMMA.true in
          (omega arith, rw (w.numbers-is, w.i-is) (l.invariant.1 ∙ read)))
      | else-b-eq-COMMA w ↦
          (let read = byte-read l.numbers l.i line l.b-index (omega arith) w.if-b-eq-COMMA.false in
          (omega arith, rw (w.numbers-is, w.i-is) (l.invariant.1 ∙ read ∙ rw w.put_digit.ensures)))
    ]

pub returns : goal.returns
returns c =
    let l = c.loop-b in
    sym (l.invariant.1 ∙ line_read l.numbers l.i c.args.line.now l.b-index (omega arith))
