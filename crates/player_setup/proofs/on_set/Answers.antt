-- `on_set`: 11, a set, or the last one.
use Prim.Native.Nat.{◌+◌}
use native.Mathlib.Numerals.{add-one}
use borrow.Author.Tests.{le-ltb}
use Rattle.model.specs.Tables.{put}
use Rattle.player_text.specs.Player.{set_in, on_set}
use Rattle.player_text.specs.Calls.{text}
use Rattle.player_text.proofs.Heads.{stops, takes-set}
use Rattle.player_setup.proofs.on_set.Goals as goal

pub returns-in_default : goal.returns-in_default
unfolding on_set put
returns-in_default c = λ ts rows fits.
    let a = c.args in
    stops a.p ts rows c.stop.result 11 c.one_more-place.result c.stop.ensures (on_set (text a.p ts rows) (set_in a.m)) (rw (← c.set_in.ensures, c.in_default.is, c.one_more-place.ensures))

pub returns-then-given-p : goal.returns-then-given-p
unfolding on_set put
returns-then-given-p c = λ ts rows fits.
    let a = c.args in
    rw (← c.set_in.ensures, c.in-Some.is, le-ltb (a.p.given + 1) a.p.size c.if-given-p.true, add-one) (c.all_given.ensures ts rows fits)

pub returns : goal.returns
unfolding on_set put
returns c = λ ts rows fits.
    let a = c.args in
    rw (← c.set_in.ensures, c.in-Some.is) (takes-set a.p ts rows fits.0 c.one_more-place.result c.one_more-place.ensures c.in-Some.set fits.1 c.if-given-p.false)
