use Rattle.save_text.specs.Text.{each_up_to}
use Rattle.save_putting.specs.Puts.{Puts}
use Rattle.save_writing.specs.Lines.{set_lines}
use Rattle.save_writing.proofs.put_sets.Given as goal

abbrev pub invariant-loop-set : goal.invariant-loop-set
invariant-loop-set l = Puts (each_up_to (set_lines l.sets) l.set-index) l.at l.initial.page l.page l.next
