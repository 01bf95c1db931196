-- `grown`: past the limit, or with the digit.
use borrow.Author.Tests.{le-leb, lt-leb}
use native.Mathlib.Omega.{arith}
use Rattle.rig.specs.Limits.{number_limit}
use Rattle.save_lines.specs.Lines.{grown}
use Rattle.save_numbers.proofs.grown.Goals as goal

pub returns-then-n-gt-NUMBERS : goal.returns-then-n-gt-NUMBERS
unfolding grown
returns-then-n-gt-NUMBERS c = rw (lt-leb c.args.n number_limit (omega arith))

pub returns : goal.returns
unfolding grown
returns c = rw (le-leb c.args.n number_limit (omega arith)) (omega arith)
