-- `step_line`: the fields one behind the other, and the end of the line.
use borrow.Author.Rules.{rules}
use Rattle.player_printing.specs.Printing.{step_line}
use Rattle.player_bytes.specs.Wrote.{Wrote}
use Rattle.player_bytes.proofs.Stores.{wrote-more}
use Rattle.player_printing.proofs.Lines.{wrote-line}
use Rattle.player_printing.proofs.step_line.Goals as goal

pub returns : goal.returns
unfolding step_line
returns c =
    let a = c.args in
    let w : Wrote (step_line a.step a.code a.inside a.waiting a.flying) 0 a.page.now _ c.put_word.result =
    wrote-more c.put_field-after_step.ensures.wrote
    (wrote-more c.put_field-after_code.ensures.wrote
    (wrote-more c.put_field-after_inside.ensures.wrote
    (wrote-more c.put_field-after_waiting.ensures.wrote
    (wrote-more c.put_field-after_flying.ensures.wrote
    c.put_word.ensures)))) in
    wrote-line w (search rules)
