use Prim.Native.Nat.{◌≤◌}
use mathlib.Core.Path.{◌≡◌}
use lib.ListN.{drop}
use Rattle.save_lines.specs.Lines.{numbers_from, numbers_in}
use Rattle.save_numbers.proofs.numbers_in.Given as goal

abbrev pub invariant-loop-b : goal.invariant-loop-b
invariant-loop-b l = (l.i ≤ l.b-index) × (numbers_in l.line ≡ numbers_from l.numbers l.i (drop l.b-index l.line))
