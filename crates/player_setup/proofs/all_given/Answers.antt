-- `all_given`: 2, 3, 17, or the first event.
use mathlib.Core.Path.{◌≡◌, sym}
use borrow.Author.Tests.{ne_eqb}
use Rattle.model.specs.Setup.{setup_code}
use Rattle.refusals.specs.Numbers.{number_of}
use Rattle.refusals.proofs.Refusals.{some_number}
use Rattle.player_text.specs.Player.{all_given}
use Rattle.player_text.specs.Calls.{text}
use Rattle.player_text.proofs.Heads.{stops, starts}
use Rattle.player_setup.proofs.all_given.Goals as goal

pub returns-in-Err : goal.returns-in-Err
unfolding all_given
returns-in-Err c = λ ts rows fits.
    let a = c.args in
    let why = c.in-Err.refusal in
    let e : number_of why ≡ setup_code a.p.size a.sets = rw c.in-Err.is at c.setup.ensures.determined.0 in
    stops a.p ts rows c.stop.result c.number.result c.fault_line.result c.stop.ensures (all_given (text a.p ts rows) a.sets)
    (rw (c.fault_line.ensures, c.number.ensures, ← e, ne_eqb (number_of why) 0 (some_number why)))

pub returns : goal.returns
unfolding all_given
returns c = λ ts rows fits.
    let a = c.args in
    let e : setup_code a.p.size a.sets ≡ 0 = sym (rw c.in-Ok.is at c.setup.ensures.determined.0) in
    starts a.p ts rows fits.0 c.one_more-place.result c.one_more-place.ensures a.sets c.in-Ok.rig e (rw c.in-Ok.is at c.setup.ensures.determined.1)
