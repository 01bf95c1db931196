-- `yield_members`: the rows hold what yielding the members passed so far has done.
use Prim.Native.Nat.{suc, ◌+◌, ◌-◌, ◌≤◌}
use mathlib.Core.Path.{◌≡◌, refl, ap, ◌∙◌}
use native.Mathlib.Omega.{arith}
use native.Mathlib.Numerals.{add-one}
use Rattle.model.specs.Sets.{member}
use Rattle.model.specs.Site.{failed_set, yielded_if, yielded_up_to}
use Rattle.rig_members.specs.Walk.{word_bits, within}
use Rattle.rig_members.proofs.Walk.{passed_to, turn, turn-again, walk_begins, walk_first, walk-next, walk-last}
use Rattle.site_yields.proofs.Does.{did-only, did_then, up-to-short, up-to-idle}
use Rattle.site_yields.proofs.yield_members.Goals as goal

pub loop-j-init : goal.loop-j-init
unfolding yielded_up_to failed_set
loop-j-init c =
    let d = c.args.d in
    let word : d.size ≤ word_bits = omega arith in
    let starts : c.into_iter-j-iterator.result.left ≡ within d.size d.members = cc in
    rw (walk_first (yielded_up_to (failed_set d)) d.size d.members (up-to-idle d) word starts)
    (tt, tt, walk_begins d.size d.members word starts, did-only _ _ refl, refl)

pub overflow_sub-j : goal.overflow_sub-j
overflow_sub-j c =
    let t = c.in-Some.ensures.steps in
    omega (arith, (turn c.loop-j.invariant.2 t.0 t.1).next)

pub yield_if-n-requires : goal.yield_if-n-requires
yield_if-n-requires c =
    let l = c.loop-j in
    let d = c.args.d in
    let j = c.in-Some.j in
    let t = c.in-Some.ensures.steps in
    let u = turn l.invariant.2 t.0 t.1 in
    let back : j - 1 + 1 ≡ j = omega (arith, u.next) in
    let short = up-to-short (failed_set d) (passed_to d.size l.j-iterator.left) in
    (ap (member d.members) back ∙ u.visits, omega (arith, u.next, u.high), omega (arith, u.next, u.high, l.invariant.3.appends.count))

pub loop-j-preserved : goal.loop-j-preserved
unfolding yielded_up_to
loop-j-preserved c =
    let l = c.loop-j in
    let d = c.args.d in
    let t = c.in-Some.ensures.steps in
    let u = turn l.invariant.2 t.0 t.1 in
    let r = c.yield_if-n in
    let i = passed_to d.size l.j-iterator.left in
    rw (walk-next (yielded_up_to (failed_set d)) d.size d.members (up-to-idle d) u t.2)
    (tt, tt, turn-again u t.2, did_then (λ e. yielded_if e (suc i)) l.invariant.3 (rw (u.index, add-one) at (r.ensures d refl refl)), r.auto.out ∙ l.invariant.4)

pub returns : goal.returns
unfolding failed_set
returns c =
    let d = c.args.d in
    rw (c.failed_set.ensures, ← (walk-last (yielded_up_to (failed_set d)) d.size d.members (up-to-idle d) c.in-None.ensures.steps.0)) c.loop-j.invariant.3
