-- `set_line`: the line as far as the members passed so far, then its end.
use mathlib.Core.Path.{◌≡◌, refl}
use borrow.Author.Rules.{rules}
use native.Mathlib.Omega.{arith}
use Rattle.rig.specs.Limits.{site_limit}
use Rattle.rig_members.specs.Walk.{within, members_up_to}
use Rattle.rig_members.proofs.Walk.{passed_to, passed-up-to, turn, turn-again, walk_begins, walk_first, walk-next, walk-last}
use Rattle.rig_members.proofs.Visits.{members-idle}
use Rattle.player_bytes.proofs.Stores.{wrote-more}
use Rattle.plan_lines.specs.Lines.{list_text, set_text}
use Rattle.plan_lines.proofs.Lines.{members-short, wrote-member}
use Rattle.plan_lines.proofs.set_line.Goals as goal

pub loop-j-init : goal.loop-j-init
unfolding members_up_to list_text
loop-j-init c =
    let set = c.args.set in
    let starts : c.into_iter-j-iterator.result.left ≡ within site_limit set = cc in
    rw (walk_first (members_up_to set) site_limit set (members-idle set site_limit) (omega arith) starts)
    (tt, tt, walk_begins site_limit set (omega arith) starts, refl, record { behind = search rules; stored = refl })

pub put_member-next-requires : goal.put_member-next-requires
put_member-next-requires c =
    let l = c.loop-j in
    let t = c.in-Some.ensures.steps in
    let u = turn l.invariant.2 t.0 t.1 in
    let short = members-short c.args.set (passed_to site_limit l.j-iterator.left) (omega (arith, u.next, u.high)) in
    (u.visits, omega (arith, short, u.next, u.high, l.invariant.4.behind))

pub loop-j-preserved : goal.loop-j-preserved
loop-j-preserved c =
    let l = c.loop-j in
    let set = c.args.set in
    let t = c.in-Some.ensures.steps in
    let u = turn l.invariant.2 t.0 t.1 in
    let m = c.put_member-next in
    rw (walk-next (members_up_to set) site_limit set (members-idle set site_limit) u t.2)
    (tt, tt, turn-again u t.2, search rules, wrote-member set (passed_to site_limit l.j-iterator.left) (rw u.next at u.visits) l.invariant.4 (rw u.next at m.ensures))

pub put_word-requires : goal.put_word-requires
put_word-requires c =
    let l = c.loop-j in
    let up = passed-up-to l.invariant.2 in
    omega (arith, members-short c.args.set (passed_to site_limit l.j-iterator.left) (omega arith), up, l.invariant.4.behind)

pub returns : goal.returns
unfolding set_text
returns c =
    let l = c.loop-j in
    let set = c.args.set in
    let w = rw (walk-last (members_up_to set) site_limit set (members-idle set site_limit) c.in-None.ensures.steps.0) at l.invariant.4 in
    wrote-more (wrote-more c.put_word-first.ensures w) c.put_word.ensures
