-- `put_stop`: the word and the code, and the end of the line.
use borrow.Author.Rules.{rules}
use Rattle.player_bytes.proofs.Stores.{wrote-more}
use Rattle.player_printing.proofs.Lines.{wrote-line}
use Rattle.state_text.specs.State.{stop_text}
use Rattle.state_saving.proofs.put_stop.Goals as goal

pub returns : goal.returns
unfolding stop_text
returns c = wrote-line (wrote-more c.put_field-end.ensures.wrote c.put_word.ensures) (search rules)
