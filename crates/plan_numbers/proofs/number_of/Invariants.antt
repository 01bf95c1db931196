use Prim.Native.Nat.{◌≤◌}
use mathlib.Core.Path.{◌≡◌}
use lib.ListN.{drop}
use Rattle.plan_numbers.specs.Given.{largest, parameter}
use Rattle.plan_numbers.proofs.Numbers.{number_from}
use Rattle.plan_numbers.proofs.number_of.Given as goal

abbrev pub invariant-loop-b : goal.invariant-loop-b
invariant-loop-b l = (l.n ≤ largest) × (parameter l.word ≡ number_from l.n (drop l.b-index l.word))
