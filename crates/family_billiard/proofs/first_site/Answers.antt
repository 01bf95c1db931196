-- `billiard::first_site` meets its contract: no difference goes below 0.
use Prim.Native.Nat.{◌+◌, ◌-◌}
use native.Mathlib.Omega.{arith}
use borrow.Author.Tests.{lt-ltb, le-ltb}
use Rattle.family_billiard.specs.Billiard.{first_site}
use Rattle.basics.proofs.Numbers.{product, square-least}
use Rattle.family_billiard.proofs.first_site.Goals as goal

pub overflow_mul-result : goal.overflow_mul-result
overflow_mul-result c = omega (arith, product (c.args.i + c.args.j - 2) c.args.q (omega arith) (omega arith))

pub overflow_add-result-then-i-j : goal.overflow_add-result-then-i-j
overflow_add-result-then-i-j c = omega (arith, product (c.args.i + c.args.j - 2) c.args.q (omega arith) (omega arith))

pub returns-then-i-j : goal.returns-then-i-j
unfolding first_site
returns-then-i-j c = simp (lt-ltb _ _ c.if-i-j.true)

pub overflow_mul-result-2 : goal.overflow_mul-result-2
overflow_mul-result-2 c = omega (arith, product c.args.q c.args.q (omega arith) (omega arith))

pub overflow_sub-result-2 : goal.overflow_sub-result-2
overflow_sub-result-2 c = omega (arith, square-least c.args.q (omega arith))

pub overflow_sub-result-6 : goal.overflow_sub-result-6
overflow_sub-result-6 c = omega (arith, square-least c.args.q (omega arith))

pub returns : goal.returns
unfolding first_site
returns c = simp (le-ltb _ _ c.if-i-j.false)
