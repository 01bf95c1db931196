-- `all_held`: the members passed so far are held.
use Prim.Native.Nat.{◌≤◌}
use mathlib.Core.Path.{◌≡◌, refl, sym, ◌∙◌}
use mathlib.Core.Bool.{false}
use native.Mathlib.Omega.{arith}
use borrow.Author.Tests.{not-true, not-false}
use Rattle.basics.specs.Helpers.{all}
use Rattle.basics.proofs.Basics.{and-true, all-fails}
use Rattle.model.specs.Site.{all_held}
use Rattle.rig_members.specs.Walk.{word_bits, within}
use Rattle.rig_members.proofs.Walk.{turn, turn-again, walk_begins, walk_first, walk-next, walk-last}
use Rattle.site_held.proofs.Held.{held_if, held-idle, held-member}
use Rattle.site_held.proofs.all_held.Goals as goal

pub loop-j-init : goal.loop-j-init
unfolding all
loop-j-init c =
    let d = c.args.d in
    let word : d.size ≤ word_bits = omega arith in
    let starts : c.into_iter-j-iterator.result.left ≡ within d.size d.members = cc in
    rw (walk_first (all (held_if d)) d.size d.members (held-idle d) word starts) (tt, tt, walk_begins d.size d.members word starts, refl)

pub member_held-requires : goal.member_held-requires
member_held-requires c =
    let t = c.in-Some.ensures.steps in
    let u = turn c.loop-j.invariant.2 t.0 t.1 in
    (u.visits, record { low = omega (arith, u.next); high = omega (arith, u.high) })

pub returns-then-not-member_held : goal.returns-then-not-member_held
unfolding all_held
returns-then-not-member_held c =
    let d = c.args.d in
    let t = c.in-Some.ensures.steps in
    let u = turn c.loop-j.invariant.2 t.0 t.1 in
    let free : held_if d _ ≡ false = held-member d _ u.visits c.member_held.ensures ∙ not-true _ c.if-not-member_held.true-raw in
    sym (all-fails (held_if d) d.size _ (omega (arith, u.next)) u.high free)

pub loop-j-preserved : goal.loop-j-preserved
unfolding all
loop-j-preserved c =
    let d = c.args.d in
    let t = c.in-Some.ensures.steps in
    let u = turn c.loop-j.invariant.2 t.0 t.1 in
    let held = held-member d _ u.visits c.member_held.ensures ∙ not-false _ c.if-not-member_held.false-raw in
    rw (walk-next (all (held_if d)) d.size d.members (held-idle d) u t.2) (tt, tt, turn-again u t.2, and-true _ _ c.loop-j.invariant.3 (rw u.next at held))

pub returns : goal.returns
unfolding all_held
returns c =
    let d = c.args.d in
    sym (sym (walk-last (all (held_if d)) d.size d.members (held-idle d) c.in-None.ensures.steps.0) ∙ c.loop-j.invariant.3)
