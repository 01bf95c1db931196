-- Demand 3 follows from the rig's invariant, for every run.
use Prim.Native.Nat.{ℕ, ◌≤◌}
use mathlib.Core.Path.{◌≡◌, sym, ap, ◌∙◌, subst}
use mathlib.Core.Logic.{◌⊎◌, inl, inr, ◌≢◌}
use mathlib.Core.List.{List, []}
use native.Mathlib.Omega.{arith}
use lib.Dec.{eqb}
use borrow.Author.Tests.{eqb-true, eqb-false}
use Rattle.protocol.specs.Message.{Message}
use Rattle.protocol.specs.Local.{view}
use Rattle.protocol.specs.System.{System, Lawful, setting_of}
use Rattle.protocol.specs.Rig.{Rig, messages_of, Event, local_at, run, fresh}
use Rattle.protocol.specs.Claim.{Sound, Claim}
use Rattle.basics.proofs.Basics.{by_bool}
use Rattle.protocol.proofs.Clauses.{Clauses}
use Rattle.protocol.proofs.NotStuck.{nobody-waits}
use Rattle.protocol.proofs.RigMessages.{messages-nil}
use Rattle.protocol.proofs.RigInvariant.{RigInvariant, clauses-at}
use Rattle.protocol.proofs.RigKept.{reached}

module _ (y : System) (lw : Lawful y) where
  -- a site that is not inside is at rest or waits
  two-modes : (m : ℕ) → m ≤ 2 → m ≢ 2 → (m ≡ 0) ⊎ (m ≡ 1)
  two-modes m l ne = by_bool (eqb m 0) (λ e. inl (eqb-true m 0 e)) (λ e. let z = eqb-false m 0 e in inr (omega arith))

  -- the clauses while nothing is under way
  quiet : (r : Rig) → RigInvariant y r → r.under_way ≡ [] → (j : ℕ) → Clauses (setting_of y j) (view (local_at r j) [])
  quiet r w e j = subst (λ (ms : List Message). Clauses (setting_of y j) (view (local_at r j) ms)) (ap (messages_of j) e ∙ messages-nil j) (clauses-at y lw r w j)

  -- exclusion: two sites inside hold a common member of their sets, whose permission has one owner
  pub sound : (r : Rig) → RigInvariant y r → Sound y r
  sound r w = record {
    exclusion = λ k l a b.
        let x = w.in_range k (λ z. omega arith) in let z = w.in_range l (λ z. omega arith) in
        let (j, s, t) = lw.meet k l x.0 x.1 z.0 z.1 in
        let c = (w.arbiters j).1.core in
        (c.asks.inside_holds k a s).0 ∙ sym (c.asks.inside_holds l b t).0;
    one_place = λ j. (clauses-at y lw r w j).A3;
    not_stuck = λ e out. nobody-waits y lw r.sites r.rows (λ j. quiet r w e j)
        (λ k. two-modes (r.sites.mode k) (w.mode_range k) (out k))
        (λ k m. (w.in_range k (λ z. omega arith)).1) w.lacks_one;
  }

  -- every run
  pub run_sound : (es : List Event) → Sound y (run y es fresh)
  run_sound es = sound (run y es fresh) (reached y lw es)

-- demand 3
pub claim-proved : Claim
unfolding Claim
claim-proved y lw es = run_sound y lw es
