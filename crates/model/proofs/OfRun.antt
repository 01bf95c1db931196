-- The states of a run: the next one, and what holds of each.
use Prim.Native.Nat.{ℕ}
use mathlib.Core.Path.{◌≡◌, refl, sym, ap, subst, ◌∙◌}
use mathlib.Core.Bool.{true}
use mathlib.Core.List.{List, [], ◌∷◌, ◌++◌}
use borrow.Author.Tests.{eq-eqb}
use Rattle.rig.specs.declared.Rig.{Rig}
use Rattle.rig.specs.declared.Event.{Event}
use Rattle.rig.specs.Limits.{message_limit}
use Rattle.model.specs.Shape.{well_shaped}
use Rattle.model.specs.Setup.{setup_code, fresh_rig}
use Rattle.model.specs.State.{Stored, fresh_tables}
use Rattle.model.specs.Event.{Answer, played, tested, event}
use Rattle.model.specs.Run.{fresh, run, OfRun, StartsRun, InRun, Sound, KeepsRun, Demand3}
use Rattle.model.specs.Always.{AlwaysShaped}
use Rattle.model.proofs.Reached.{run-append}
use Rattle.model.proofs.Theorem.{demand3}
use Rattle.model.proofs.Always.{always-shaped}
use Rattle.model.proofs.Codes.{event-long}

-- the rig of sets that pass
pub starts-run : (n : ℕ) (sets : List ℕ) (g : Rig) → setup_code n sets ≡ 0 → g ≡ fresh_rig n sets → StartsRun n sets g
unfolding fresh fresh_tables run
starts-run n sets g e f list = rw f (refl, record { size = n; sets = sets; list = list; events = []; passed = e; same = refl })

module _ {s : Stored} (r : OfRun s) where
  next-same : (e : Event) → (event s e).next ≡ run (fresh r.size r.sets r.list) (r.events ++ e ∷ [])
  unfolding run
  next-same e = ap (λ (x : Stored). (event x e).next) r.same ∙ sym (run-append (fresh r.size r.sets r.list) r.events (e ∷ []))

  pub next-of-run : (e : Event) → OfRun (event s e).next
  next-of-run e = record { size = r.size; sets = r.sets; list = r.list; events = r.events ++ e ∷ []; passed = r.passed; same = next-same e }

  pub run-shaped : well_shaped s ≡ true
  unfolding AlwaysShaped
  run-shaped = rw r.same (always-shaped r.size r.sets r.list r.events r.passed).0

  pub run_sound : Sound s
  unfolding Demand3
  run_sound = rw r.same (demand3 r.size r.sets r.list r.events r.passed)

-- an event leaves the next state of the run
pub keeps-run : (s : Stored) (e : Event) → KeepsRun s e (event s e).next
keeps-run s e r = let n = next-of-run r e in (next-same r e, n, run_sound n)

-- the next state of a run on a list of 1,024 entries
pub in-run-next : (s : Stored) (e : Event) → InRun s → InRun (played s e).next
unfolding event tested
in-run-next s e r =
    let same : event s e ≡ played s e = rw (eq-eqb _ message_limit r.long, run-shaped r.run) in
    subst (λ (x : Answer). InRun x.next) same (record { run = next-of-run r.run e; long = event-long s e r.long })
