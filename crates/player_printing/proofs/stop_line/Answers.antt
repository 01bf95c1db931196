-- `stop_line`: the fields one behind the other, and the end of the line.
use borrow.Author.Rules.{rules}
use Rattle.player_printing.specs.Printing.{stop_line}
use Rattle.player_bytes.specs.Wrote.{Wrote}
use Rattle.player_bytes.proofs.Stores.{wrote-more}
use Rattle.player_printing.proofs.Lines.{wrote-line}
use Rattle.player_printing.proofs.stop_line.Goals as goal

pub returns : goal.returns
unfolding stop_line
returns c =
    let a = c.args in
    let w : Wrote (stop_line a.code a.line) 0 a.page.now _ c.put_word.result =
    wrote-more c.put_field-after_code.ensures.wrote
    (wrote-more c.put_field-after_line.ensures.wrote
    c.put_word.ensures) in
    wrote-line w (search rules)
