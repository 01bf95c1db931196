use lib.ListN.{take}
use Rattle.player_bytes.specs.Wrote.{Wrote}
use Rattle.plan_lines.specs.Lines.{list_text}
use Rattle.save_lines.proofs.put_line.Given as goal

abbrev pub invariant-loop-n : goal.invariant-loop-n
invariant-loop-n l = Wrote (list_text (take l.n-index (take l.count l.numbers))) l.first l.initial.page l.page l.next
