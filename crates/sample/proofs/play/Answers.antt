-- `play`: each event is one on a state of a run, which its answer is then, and demand 3 holds of it.
use mathlib.Core.Path.{◌≡◌, sym, subst}
use mathlib.Core.List.{List}
use Prim.Native.Nat.{ℕ}
use Rattle.rig.specs.declared.Rig.{Rig}
use Rattle.rig.specs.declared.Message.{Message}
use Rattle.rig.specs.Limits.{blank_tables}
use Rattle.model.specs.State.{stored}
use Rattle.model.specs.Run.{OfRun, StartsRun}
use Rattle.sample.proofs.play.Goals as goal

begins : (g : Rig) (ts : List (List (List ℕ))) (ys : List Message) → (n : ℕ) × (sets : List ℕ) × StartsRun n sets g → ts ≡ blank_tables → OfRun (stored g ts ys 0)
begins g ts ys made e = subst (λ (us : List (List (List ℕ))). OfRun (stored g us ys 0)) (sym e) (made.2 ys).1

pub loop-i-init : goal.loop-i-init
loop-i-init g c = begins c.args.fresh c.blank-tables.result _ c.requires c.blank-tables.ensures

pub print_line-requires : goal.print_line-requires
print_line-requires g c = (c.event-r.ensures.1 c.loop-i.invariant).2.exclusion

pub loop-i-preserved : goal.loop-i-preserved
loop-i-preserved g c = (c.event-r.ensures.1 c.loop-i.invariant).1
