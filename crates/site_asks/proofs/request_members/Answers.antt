-- `request_members`: the requests to the members passed so far.
use Prim.Native.Nat.{◌≤◌}
use mathlib.Core.Path.{◌≡◌, refl, ◌∙◌}
use native.Mathlib.Omega.{arith}
use Rattle.model.specs.Ask.{requests}
use Rattle.event_effects.proofs.Effects.{sent-none, sent-more}
use Rattle.rig_members.specs.Walk.{word_bits, within}
use Rattle.rig_members.proofs.Walk.{passed_to, turn, turn-again, walk_begins, walk_first, walk-next, walk-last}
use Rattle.site_asks.proofs.Sends.{requests-short, requests-idle}
use Rattle.site_asks.proofs.request_members.Goals as goal

pub loop-j-init : goal.loop-j-init
unfolding requests
loop-j-init c =
    let a = c.args in
    let word : a.d.size ≤ word_bits = omega arith in
    let starts : c.into_iter-j-iterator.result.left ≡ within a.d.size a.d.members = cc in
    rw (walk_first (requests a.d a.seq) a.d.size a.d.members (requests-idle a.d a.seq) word starts)
    (tt, tt, walk_begins a.d.size a.d.members word starts, sent-none, refl)

pub request_member-n-requires : goal.request_member-n-requires
request_member-n-requires c =
    let l = c.loop-j in
    let a = c.args in
    let t = c.in-Some.ensures.steps in
    let u = turn l.invariant.2 t.0 t.1 in
    let short = requests-short a.d a.seq (passed_to a.d.size l.j-iterator.left) in
    (u.visits, omega (arith, u.next, u.high, l.invariant.3.count))

pub loop-j-preserved : goal.loop-j-preserved
unfolding requests
loop-j-preserved c =
    let l = c.loop-j in
    let a = c.args in
    let t = c.in-Some.ensures.steps in
    let u = turn l.invariant.2 t.0 t.1 in
    let r = c.request_member-n in
    rw (walk-next (requests a.d a.seq) a.d.size a.d.members (requests-idle a.d a.seq) u t.2, rw u.next at u.visits)
    (tt, tt, turn-again u t.2, sent-more l.invariant.3 (rw u.next at r.ensures), r.auto.out ∙ l.invariant.4)

pub returns : goal.returns
returns c =
    let a = c.args in
    rw (← (walk-last (requests a.d a.seq) a.d.size a.d.members (requests-idle a.d a.seq) c.in-None.ensures.steps.0)) c.loop-j.invariant.3
