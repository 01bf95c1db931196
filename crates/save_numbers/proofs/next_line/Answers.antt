-- `next_line`: behind the byte 10, or at the end.
use borrow.Author.Tests.{lt-ltb, le-ltb}
use native.Mathlib.Omega.{arith}
use Rattle.save_numbers.specs.Places.{next_line}
use Rattle.save_numbers.proofs.next_line.Goals as goal

pub returns-then-end-len : goal.returns-then-end-len
unfolding next_line
returns-then-end-len c = rw (lt-ltb _ _ c.if-end-len.true) (omega arith)

pub returns : goal.returns
unfolding next_line
returns c = rw (le-ltb _ _ c.if-end-len.false)
