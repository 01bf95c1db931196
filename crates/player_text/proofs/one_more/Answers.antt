-- `one_more`: the largest number stays.
use borrow.Author.Tests.{eq-eqb, ne_eqb}
use Rattle.player_text.specs.Player.{counted}
use Rattle.player_text.proofs.one_more.Goals as goal

pub returns-then-n-eq18446744073709551615 : goal.returns-then-n-eq18446744073709551615
unfolding counted
returns-then-n-eq18446744073709551615 c = rw (eq-eqb c.args.n 18_446_744_073_709_551_615 c.if-n-eq18446744073709551615.true)

pub returns-else-n-eq18446744073709551615 : goal.returns-else-n-eq18446744073709551615
unfolding counted
returns-else-n-eq18446744073709551615 c = rw (ne_eqb c.args.n 18_446_744_073_709_551_615 c.if-n-eq18446744073709551615.false)
