use Prim.Native.Nat.{◌≤◌}
use mathlib.Core.Path.{◌≡◌}
use lib.ListN.{drop}
use Rattle.player_numbers.proofs.Numbers.{number_from}
use Rattle.player_numbers.proofs.read_number.Given as goal

abbrev pub invariant-loop-b : goal.invariant-loop-b
invariant-loop-b l = (l.n ≤ 999) × (number_from 0 l.part ≡ number_from l.n (drop l.b-index l.part))
