-- `member_held`: its number is not 0.
use mathlib.Core.Path.{sym, ap}
use mathlib.Core.Bool.{not}
use lib.Dec.{eqb}
use Rattle.model.proofs.Tables.{at_read}
use Rattle.site_held.proofs.member_held.Goals as goal

pub returns : goal.returns
returns c =
    let a = c.args in
    ap (λ g. not (eqb g 0)) (sym (at_read 0 a.held.now a.j c.requires.1.low))
