-- `no_leading_zero`: none, one or more bytes.
use Rattle.player_numbers.proofs.Numbers.{no_byte, one_byte, more_bytes}
use Rattle.player_numbers.proofs.no_leading_zero.Goals as goal

pub returns-then-part-eq0 : goal.returns-then-part-eq0
returns-then-part-eq0 c = no_byte c.args.part.now c.if-part-eq0.true

pub returns-then-part-eq1 : goal.returns-then-part-eq1
returns-then-part-eq1 c = one_byte c.args.part.now c.if-part-eq1.true

pub returns : goal.returns
returns c = more_bytes c.args.part.now c.if-part-eq0.false c.if-part-eq1.false
