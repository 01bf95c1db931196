use Rattle.save_text.specs.Text.{each_up_to}
use Rattle.save_putting.specs.Puts.{Puts}
use Rattle.save_writing.specs.Lines.{message_lines}
use Rattle.save_writing.proofs.put_messages.Given as goal

abbrev pub invariant-loop-row : goal.invariant-loop-row
invariant-loop-row l = Puts (each_up_to (message_lines l.list) l.row-index) l.at l.initial.page l.page l.next
