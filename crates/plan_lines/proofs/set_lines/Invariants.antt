use mathlib.Core.Path.{◌≡◌}
use lib.ListN.{length}
use Rattle.player_bytes.specs.Wrote.{Wrote}
use Rattle.plan_lines.specs.Lines.{set_texts}
use Rattle.plan_lines.proofs.set_lines.Given as goal

abbrev pub invariant-loop-set : goal.invariant-loop-set
invariant-loop-set l = (length l.page ≡ length l.initial.page) × Wrote (set_texts l.sets l.set-index) l.at l.initial.page l.page l.next
