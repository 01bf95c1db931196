-- The states of a run are playable.
use Prim.Native.Nat.{ℕ}
use mathlib.Core.Path.{◌≡◌, refl, sym, subst}
use mathlib.Core.Bool.{true}
use mathlib.Core.List.{List, [], ◌∷◌}
use Rattle.basics.specs.Helpers.{all}
use Rattle.rig.specs.declared.Event.{Event}
use Rattle.rig.specs.declared.Message.{Message}
use Rattle.model.specs.Tables.{at}
use Rattle.model.specs.Setup.{setup_code, fresh_rig}
use Rattle.model.specs.State.{Stored, fresh_tables}
use Rattle.model.specs.Event.{event}
use Rattle.model.specs.Run.{fresh, run}
use Rattle.model.specs.Always.{AlwaysShaped}
use Rattle.model.proofs.Always.{always-shaped}
use Rattle.model.proofs.Theorem.{run_of}
use Rattle.model_shaped.specs.Kept.{has_granted, all_granted, RunsPlayable}
use Rattle.model_shaped.proofs.Events.{Steady, steady-next, event-cases}

event-steady : (s : Stored) (e : Event) → Steady s → Steady (event s e).next
event-steady s e h = event-cases Steady s e h.shaped h (steady-next s h e)

run-steady : (es : List Event) (s : Stored) → Steady s → Steady (run s es)
unfolding run
run-steady [] s h = h
run-steady (e ∷ es) s h = run-steady es (event s e).next (event-steady s e h)

fresh-granted : (n : ℕ) (sets : List ℕ) → all_granted (fresh_rig n sets) ≡ true
unfolding all_granted has_granted fresh_rig all at
fresh-granted n sets = refl

fresh-steady : (n : ℕ) (sets : List ℕ) (list : List Message) → setup_code n sets ≡ 0 → Steady (fresh n sets list)
unfolding AlwaysShaped run fresh fresh_tables
fresh-steady n sets list e =
    let r = run_of n sets list [] e in
    record { shaped = (always-shaped n sets list [] e).0; granted = fresh-granted n sets; rows = λ k q. r.sized.held.columns k q.low q.high }

pub runs-playable : RunsPlayable
unfolding RunsPlayable
runs-playable s r =
    let o = r.run in
    let h = subst Steady (sym o.same) (run-steady o.events _ (fresh-steady o.size o.sets o.list o.passed)) in
    record { shaped = h.shaped; granted = h.granted; rows = h.rows; long = r.long }
