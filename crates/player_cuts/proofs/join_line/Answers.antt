-- `join_line`: the line so far, and what is left of the text.
use Prim.Native.Nat.{◌+◌}
use mathlib.Core.Bool.{true}
use mathlib.Core.List.{[], ◌∷◌, ◌++◌}
use mathlib.Core.Path.{◌≡◌, refl, ◌∙◌}
use native.Mathlib.Numerals.{add-one}
use native.Mathlib.Omega.{arith}
use lib.ListN.{get_or, take, set, length-set}
use lib.Seq.{take-suc-set, length-take-le}
use Rattle.basics.proofs.Basics.{clash}
use Rattle.player_cuts.proofs.Joining.{line-ends, line-grows, line-too-long, line-goes-on}
use Rattle.player_cuts.proofs.join_line.Goals as goal

pub returns-then-b-eq10 : goal.returns-then-b-eq10
returns-then-b-eq10 c =
    let l = c.loop-i in
    let a = c.args in
    let e = l.invariant.4 ∙ line-ends a.text.now (take l.n l.all) l.i (omega arith) c.if-b-eq10.true in
    rw e (record { line = refl; taken = refl; whole = refl; long = l.invariant.2; room = omega (arith, l.invariant.3); short = λ h. l.invariant.3 })

pub returns-then-n-gt-LINE_LIMIT : goal.returns-then-n-gt-LINE_LIMIT
returns-then-n-gt-LINE_LIMIT c =
    let l = c.loop-i in
    let a = c.args in
    let line-length = length-take-le l.n l.all (omega (arith, l.invariant.2, l.invariant.3)) in
    let e = l.invariant.4 ∙ line-too-long a.text.now (take l.n l.all) l.i (omega arith) c.if-b-eq10.false (omega (arith, line-length)) in
    rw e (record { line = rw add-one (take-suc-set l.all l.n _ (omega (arith, l.invariant.2, l.invariant.3))); taken = refl; whole = refl; long = simp length-set l.invariant.2; room = omega (arith, l.invariant.3); short = λ h. clash true refl h })

pub loop-i-preserved : goal.loop-i-preserved
loop-i-preserved c =
    let l = c.loop-i in
    let a = c.args in
    let line-length = length-take-le l.n l.all (omega (arith, l.invariant.2, l.invariant.3)) in
    let b = get_or a.text.now l.i 0 in
    let stored : take (l.n + 1) (set l.all l.n b) ≡ take l.n l.all ++ (b ∷ []) = rw add-one (take-suc-set l.all l.n b (omega (arith, l.invariant.2, l.invariant.3))) in
    let e = l.invariant.4 ∙ line-grows a.text.now (take l.n l.all) l.i (omega arith) c.if-b-eq10.false (omega (arith, line-length)) in
    (omega arith, refl, simp length-set l.invariant.2, omega arith, e ∙ rw stored)

pub returns : goal.returns
returns c =
    let l = c.loop-i in
    let a = c.args in
    let e = l.invariant.4 ∙ line-goes-on a.text.now (take l.n l.all) l.i (omega arith) in
    rw e (record { line = refl; taken = omega arith; whole = refl; long = l.invariant.2; room = omega (arith, l.invariant.3); short = λ h. l.invariant.3 })
