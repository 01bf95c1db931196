-- `hand_on_members`: what is sent on for the members passed so far.
use Prim.Native.Nat.{◌≤◌}
use mathlib.Core.Path.{◌≡◌, refl, ◌∙◌}
use native.Mathlib.Omega.{arith}
use Rattle.model.specs.Leave.{hand_ons}
use Rattle.event_effects.proofs.Effects.{sent-none, sent-more}
use Rattle.rig_members.specs.Walk.{word_bits, within}
use Rattle.rig_members.proofs.Walk.{passed_to, turn, turn-again, walk_begins, walk_first, walk-next, walk-last}
use Rattle.site_leaves.proofs.Sends.{hand_ons-short, hand_ons-idle, hand_ons-more}
use Rattle.site_leaves.proofs.hand_on_members.Goals as goal

pub loop-j-init : goal.loop-j-init
unfolding hand_ons
loop-j-init c =
    let d = c.args.d in
    let word : d.size ≤ word_bits = omega arith in
    let starts : c.into_iter-j-iterator.result.left ≡ within d.size d.members = cc in
    rw (walk_first (hand_ons d) d.size d.members (hand_ons-idle d) word starts)
    (tt, tt, walk_begins d.size d.members word starts, sent-none, refl)

pub hand_on_member-n-requires : goal.hand_on_member-n-requires
hand_on_member-n-requires c =
    let l = c.loop-j in
    let d = c.args.d in
    let t = c.in-Some.ensures.steps in
    let u = turn l.invariant.2 t.0 t.1 in
    let low : 1 ≤ c.in-Some.j = omega (arith, u.next) in
    let short = hand_ons-short d (passed_to d.size l.j-iterator.left) in
    (u.visits, record { low = low; high = omega (arith, u.high) }, c.requires.held _ low (omega (arith, u.high)), omega (arith, u.next, u.high, l.invariant.3.count))

pub loop-j-preserved : goal.loop-j-preserved
loop-j-preserved c =
    let l = c.loop-j in
    let d = c.args.d in
    let t = c.in-Some.ensures.steps in
    let u = turn l.invariant.2 t.0 t.1 in
    let r = c.hand_on_member-n in
    let i = passed_to d.size l.j-iterator.left in
    rw (walk-next (hand_ons d) d.size d.members (hand_ons-idle d) u t.2, hand_ons-more d i (rw u.next at u.visits))
    (tt, tt, turn-again u t.2, sent-more l.invariant.3 (rw u.next at r.ensures), r.auto.out ∙ l.invariant.4)

pub returns : goal.returns
returns c =
    let d = c.args.d in
    rw (← (walk-last (hand_ons d) d.size d.members (hand_ons-idle d) c.in-None.ensures.steps.0)) c.loop-j.invariant.3
