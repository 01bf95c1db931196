-- `head`: the head of the sites below k.
use Prim.Native.Nat.{◌-◌, ◌+◌}
use mathlib.Core.Path.{◌≡◌, refl, ◌∙◌}
use native.Mathlib.Omega.{arith}
use Rattle.model.specs.Priority.{head}
use Rattle.model.proofs.Heads.{head-within}
use Rattle.arbiter_queue.proofs.Heads.{head-turn}
use Rattle.arbiter_queue.proofs.head.Goals as goal

pub loop-k-init : goal.loop-k-init
unfolding head
loop-k-init c = (omega arith, refl)

pub head_with-h-requires : goal.head_with-h-requires
head_with-h-requires c =
    let l = c.loop-k in
    let w = head-within c.args.queued.now (l.k - 1) in
    (record { low = omega arith; high = omega arith }, omega arith)

pub loop-k-preserved : goal.loop-k-preserved
loop-k-preserved c =
    let l = c.loop-k in
    let e : l.k + 1 - 1 ≡ l.k = omega arith in
    (omega arith, rw e (c.head_with-h.ensures ∙ head-turn c.args.queued.now l.k (omega arith) l.invariant.1))

pub returns-2 : goal.returns-2
returns-2 c =
    let l = c.loop-k in
    let last : l.k ≡ c.args.size = omega arith in
    rw last at (c.head_with-h.ensures ∙ head-turn c.args.queued.now l.k (omega arith) l.invariant.1)
