-- `on_size`: 11, 1, or N.
use borrow.Author.Tests.{le-leb, lt-leb}
use Rattle.rig.specs.Limits.{site_limit}
use Rattle.model.specs.Setup.{size_listed}
use Rattle.player_text.specs.Player.{size_in, on_size}
use Rattle.player_text.specs.Calls.{text}
use Rattle.player_text.proofs.Heads.{stops, takes-size}
use Rattle.player_setup.proofs.on_size.Goals as goal

pub returns-in_default : goal.returns-in_default
unfolding on_size size_listed
returns-in_default c = λ ts rows untouched.
    let a = c.args in
    stops a.p ts rows c.stop.result 11 c.one_more-place.result c.stop.ensures (on_size (text a.p ts rows) (size_in a.m)) (rw (← c.size_in.ensures, c.in_default.is, c.one_more-place.ensures))

pub returns-then-n-lt1 : goal.returns-then-n-lt1
unfolding on_size size_listed
returns-then-n-lt1 c = λ ts rows untouched.
    let a = c.args in
    stops a.p ts rows c.stop-then-n-lt1.result 1 c.one_more-place.result c.stop-then-n-lt1.ensures (on_size (text a.p ts rows) (size_in a.m)) (rw (← c.size_in.ensures, c.in-Some.is, lt-leb 1 c.in-Some.n c.if-n-lt1.true, c.one_more-place.ensures))

pub returns-then-n : goal.returns-then-n
unfolding on_size size_listed
returns-then-n c = λ ts rows untouched.
    let a = c.args in
    stops a.p ts rows c.stop-then-n.result 1 c.one_more-place.result c.stop-then-n.ensures (on_size (text a.p ts rows) (size_in a.m)) (rw (← c.size_in.ensures, c.in-Some.is, le-leb 1 c.in-Some.n c.if-n-lt1.false, lt-leb c.in-Some.n site_limit c.if-n.true, c.one_more-place.ensures))

pub returns : goal.returns
unfolding on_size size_listed
returns c = λ ts rows untouched.
    let a = c.args in
    rw (← c.size_in.ensures, c.in-Some.is) (takes-size a.p ts rows untouched c.one_more-place.result c.one_more-place.ensures c.in-Some.n c.if-n-lt1.false c.if-n.false)
