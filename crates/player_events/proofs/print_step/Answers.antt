-- `print_step`: the line stands on a page, and goes to the output.
use native.Mathlib.Omega.{arith}
use mathlib.Core.Path.{refl}
use Rattle.player_printing.proofs.Lines.{printed-part}
use Rattle.player_events.proofs.Reading.{fits-page, copied}
use Rattle.player_events.proofs.print_step.Goals as goal

pub slice_bounds-page-end : goal.slice_bounds-page-end
slice_bounds-page-end c = (printed-part c.step_line-n.ensures).0

pub slice_bounds-put_word-end : goal.slice_bounds-put_word-end
slice_bounds-put_word-end c = (printed-part c.step_line-n.ensures).1

pub put_word-requires : goal.put_word-requires
put_word-requires c = let f = fits-page c.step_line-n.ensures refl in omega arith

pub returns : goal.returns
returns c = copied c.step_line-n.ensures refl c.requires c.put_word.ensures
