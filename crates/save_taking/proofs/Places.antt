-- The place behind a line.
use Prim.Native.Nat.{ℕ, ◌≤◌}
use mathlib.Core.List.{List}
use native.Mathlib.Omega.{arith}
use borrow.Author.Tests.{ltb-true}
use lib.Dec.{ltb}
use lib.ListN.{length}
use Rattle.basics.proofs.Basics.{by_bool}
use Rattle.save_numbers.specs.Places.{line_end, next_line}
use Rattle.save_taking.specs.Places.{place_behind}

pub behind-within : (text : List ℕ) (at : ℕ) → place_behind text at ≤ length text
unfolding next_line
behind-within text at = by_bool (ltb (line_end text at) (length text)) (λ e. let l = ltb-true (line_end text at) (length text) e in rw e (omega arith)) (λ e. rw e (omega arith))
