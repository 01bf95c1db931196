-- `fit`: the two tests in their order.
use mathlib.Core.Path.{ap}
use mathlib.Core.Bool.{not}
use borrow.Author.Tests.{eq-eqb, ne_eqb}
use lib.Bits.{bit_and}
use Rattle.model.proofs.Sets.{meet-and}
use Rattle.setup_rules.proofs.fit.Goals as goal

pub returns-then-a-b-ne0 : goal.returns-then-a-b-ne0
returns-then-a-b-ne0 c = λ n l m.
    let x = c.args.a in
    let y = c.args.b in
    rw (meet-and n x y l, ne_eqb (bit_and x y) 0 c.if-a-b-ne0.true) (ap not (c.are_nested.ensures n l m))

pub returns-else-a-b-ne0 : goal.returns-else-a-b-ne0
returns-else-a-b-ne0 c = λ n l m.
    let x = c.args.a in
    let y = c.args.b in
    rw (meet-and n x y l, eq-eqb (bit_and x y) 0 c.if-a-b-ne0.false)
