use Prim.Native.Nat.{ℕ, suc, ◌+◌, ◌<◌}
use mathlib.Core.Path.{◌≡◌}
use lib.ListN.{length}
use lib.Seq.{sets}
use Rattle.player_bytes.specs.Decimal.{digits, decimal}
use Rattle.player_bytes.proofs.Digits.{Room}
use Rattle.player_bytes.proofs.put_decimal.Given as goal

abbrev pub invariant-loop-rest : goal.invariant-loop-rest
invariant-loop-rest l = (f : ℕ) × Room f l.rest × (l.i < length l.page) × (length l.page ≡ length l.initial.page) × (l.i + 1 ≡ l.at + length (digits (suc f) l.rest)) × (sets l.page l.at (digits (suc f) l.rest) ≡ sets l.initial.page l.at (decimal l.n))

abbrev pub decreases-loop-rest : goal.decreases-loop-rest
decreases-loop-rest l = l.rest
