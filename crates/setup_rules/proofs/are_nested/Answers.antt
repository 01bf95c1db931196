-- `are_nested`: two different sets whose bitwise and is one of them.
use lib.Bits.{bit_and}
use borrow.Author.Tests.{eq-eqb, ne_eqb}
use Rattle.model.proofs.Sets.{nested-and}
use Rattle.setup_rules.proofs.are_nested.Goals as goal

pub returns-then-common-a : goal.returns-then-common-a
returns-then-common-a c = λ n l m.
    let x = c.args.a in
    let y = c.args.b in
    rw (nested-and n x y l m, ne_eqb x y c.if-a-b.true, eq-eqb (bit_and x y) x c.if-common-a.true)

pub returns-else-common-a : goal.returns-else-common-a
returns-else-common-a c = λ n l m.
    let x = c.args.a in
    let y = c.args.b in
    rw (nested-and n x y l m, ne_eqb x y c.if-a-b.true, ne_eqb (bit_and x y) x c.if-common-a.false)

pub returns-else-a-b : goal.returns-else-a-b
returns-else-a-b c = λ n l m.
    let x = c.args.a in
    let y = c.args.b in
    rw (nested-and n x y l m, eq-eqb x y c.if-a-b.false)
