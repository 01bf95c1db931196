-- `take_line`: the part of the text before the line's end.
use native.Mathlib.Omega.{arith}
use Rattle.save_numbers.specs.Places.{line_end}
use Rattle.save_taking.specs.Places.{line_here}
use Rattle.save_taking.proofs.take_line.Goals as goal

pub slice_bounds-meaning-count : goal.slice_bounds-meaning-count
unfolding line_end
slice_bounds-meaning-count c = omega (arith, c.end_of_line-end.ensures.value)

pub slice_bounds-meaning-start : goal.slice_bounds-meaning-start
unfolding line_end
slice_bounds-meaning-start c = omega (arith, c.end_of_line-end.ensures.value)

pub returns : goal.returns
unfolding line_here
returns c = rw (c.meaning-value.ensures, c.next_line-next.ensures, c.end_of_line-end.ensures.value)
