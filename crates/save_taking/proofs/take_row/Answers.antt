-- `take_row`: the numbers of the line, spread over the row.
use Rattle.save_taking.proofs.take_row.Goals as goal

pub returns : goal.returns
returns c = rw (c.row_from.ensures, c.take_numbers-line.ensures)
