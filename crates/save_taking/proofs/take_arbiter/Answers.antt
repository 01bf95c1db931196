-- `take_arbiter`: two lines.
use Rattle.save_taking.proofs.Places.{behind-within}
use Rattle.save_taking.proofs.take_arbiter.Goals as goal

pub take_numbers-second-requires : goal.take_numbers-second-requires
take_numbers-second-requires c =
    let a = c.args in
    rw c.take_numbers-first.ensures (behind-within a.text.now a.at)

pub returns : goal.returns
returns c = rw (c.arbiter_from.ensures, c.take_numbers-second.ensures, c.take_numbers-first.ensures)
