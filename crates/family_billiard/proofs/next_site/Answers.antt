-- `billiard::next_site` meets its contract: one return for each `for` of Figure 6, and no step goes below 0.
use native.Mathlib.Omega.{arith}
use borrow.Author.Tests.{lt-ltb, le-ltb, le-leb, lt-leb}
use Rattle.family_billiard.specs.Billiard.{next_site, next_above, next_below}
use Rattle.family_billiard.proofs.Steps.{site-most, early-fits, late-fits, below-fits}
use Rattle.family_billiard.proofs.next_site.Goals as goal

pub overflow_sub-result : goal.overflow_sub-result
overflow_sub-result c = omega (arith, early-fits _ _ _ _ _ c.requires.1 c.if-i-j.true c.if-k-j.true)

pub returns-then-k-j : goal.returns-then-k-j
unfolding next_site next_above next_below
returns-then-k-j c = simp (lt-ltb _ _ c.if-i-j.true, lt-ltb _ _ c.if-k-j.true)

pub overflow_add-result : goal.overflow_add-result
overflow_add-result c = omega (arith, site-most _ _ _ _ _ c.requires.1)

pub returns-then-k-rows_below : goal.returns-then-k-rows_below
unfolding next_site next_above next_below
returns-then-k-rows_below c = simp (lt-ltb _ _ c.if-i-j.true, le-ltb _ _ c.if-k-j.false, le-leb _ _ c.if-k-rows_below.true)

pub overflow_sub-result-then-i-j : goal.overflow_sub-result-then-i-j
overflow_sub-result-then-i-j c = omega (arith, late-fits _ _ _ _ _ c.requires.1 c.if-i-j.true c.if-k-j.false c.if-k-rows_below.false)

pub returns-then-i-j : goal.returns-then-i-j
unfolding next_site next_above next_below
returns-then-i-j c = simp (lt-ltb _ _ c.if-i-j.true, le-ltb _ _ c.if-k-j.false, lt-leb _ _ c.if-k-rows_below.false)

pub overflow_sub-result-then-k-rows_below-2 : goal.overflow_sub-result-then-k-rows_below-2
overflow_sub-result-then-k-rows_below-2 c = omega (arith, below-fits _ _ _ _ _ c.requires.1 c.if-i-j.false)

pub returns-then-k-rows_below-2 : goal.returns-then-k-rows_below-2
unfolding next_site next_above next_below
returns-then-k-rows_below-2 c = simp (le-ltb _ _ c.if-i-j.false, le-leb _ _ c.if-k-rows_below-2.true)

pub overflow_sub-result-then-k-j-2 : goal.overflow_sub-result-then-k-j-2
overflow_sub-result-then-k-j-2 c = omega (arith, below-fits _ _ _ _ _ c.requires.1 c.if-i-j.false)

pub returns-then-k-j-2 : goal.returns-then-k-j-2
unfolding next_site next_above next_below
returns-then-k-j-2 c = simp (le-ltb _ _ c.if-i-j.false, lt-leb _ _ c.if-k-rows_below-2.false, lt-ltb _ _ c.if-k-j-2.true)

pub overflow_sub-result-2 : goal.overflow_sub-result-2
overflow_sub-result-2 c = omega (arith, below-fits _ _ _ _ _ c.requires.1 c.if-i-j.false)

pub returns : goal.returns
unfolding next_site next_above next_below
returns c = simp (le-ltb _ _ c.if-i-j.false, lt-leb _ _ c.if-k-rows_below-2.false, le-ltb _ _ c.if-k-j-2.false)
