use Rattle.save_text.specs.Text.{each_up_to}
use Rattle.save_putting.specs.Puts.{Puts, site_lines}
use Rattle.save_writing.proofs.put_sites.Given as goal

abbrev pub invariant-loop-i : goal.invariant-loop-i
invariant-loop-i l = Puts (each_up_to (site_lines l.rig l.tables) l.i) l.at l.initial.page l.page l.next
