use Prim.Native.Nat.{ℕ, suc, ◌+◌}
use mathlib.Core.Path.{◌≡◌}
use lib.ListN.{length}
use Rattle.player_bytes.specs.Decimal.{digits, decimal}
use Rattle.player_bytes.proofs.Digits.{Room}
use Rattle.player_bytes.proofs.places.Given as goal

abbrev pub invariant-loop-rest : goal.invariant-loop-rest
invariant-loop-rest l = (f : ℕ) × Room f l.rest × (l.k + length (digits (suc f) l.rest) ≡ length (decimal l.n) + 1)

abbrev pub decreases-loop-rest : goal.decreases-loop-rest
decreases-loop-rest l = l.rest
