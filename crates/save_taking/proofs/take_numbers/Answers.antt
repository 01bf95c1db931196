-- `take_numbers`: the part of the text before the line's end.
use native.Mathlib.Omega.{arith}
use Rattle.save_numbers.specs.Places.{line_end}
use Rattle.save_taking.specs.Places.{line_here}
use Rattle.save_taking.proofs.take_numbers.Goals as goal

pub slice_bounds-numbers_in-count : goal.slice_bounds-numbers_in-count
unfolding line_end
slice_bounds-numbers_in-count c = omega (arith, c.end_of_line-end.ensures.value)

pub slice_bounds-numbers_in-start : goal.slice_bounds-numbers_in-start
unfolding line_end
slice_bounds-numbers_in-start c = omega (arith, c.end_of_line-end.ensures.value)

pub returns : goal.returns
unfolding line_here
returns c = rw (c.numbers_in-value.ensures, c.next_line-next.ensures, c.end_of_line-end.ensures.value)
