-- The runs of the version before.
use Prim.Native.Nat.{ℕ}
use mathlib.Core.Path.{◌≡◌, refl, sym, ap, ◌∙◌}
use mathlib.Core.Bool.{true}
use mathlib.Core.List.{List, [], ◌∷◌, ◌++◌}
use lib.Dec.{eqb}
use lib.ListN.{length}
use Rattle.basics.proofs.Basics.{by_bool}
use Rattle.rig.specs.declared.Event.{Event}
use Rattle.rig.specs.declared.Message.{Message}
use Rattle.rig.specs.Limits.{message_limit}
use Rattle.model.specs.Setup.{setup_code, fresh_rig}
use Rattle.model.specs.State.{Stored, under_way, fresh_tables, with_desk, with_accepted}
use Rattle.model.specs.Event.{actor, Outcome, accepted_state, settled, Answer, event}
use Rattle.model.specs.Run.{fresh}
use Rattle.model.specs.Losses.{lost, with_lost, Move, happens, loses, moved, run_with_losses}
use Rattle.model_earlier.specs.Rules as Earlier
use Rattle.model_earlier.specs.Claims.{Unnumbered, Minimal, without_numbers, EarlierEvent, EarlierCovered, EarlierUnnumbered}
use Rattle.model.proofs.Setup.{accepts, setup-minimal}
use Rattle.model.proofs.Lawful.{kept-minimal}
use Rattle.model.proofs.Lost.{take-lost}
use Rattle.model.proofs.Reached.{moves-append}
use Rattle.model_earlier.proofs.Lost.{lost-twice}
use Rattle.model_earlier.proofs.Events.{earlier-event}

-- the moves from a state to another
abbrev pub Moves : Stored → Stored → Type 0
Moves s t = (moves : List Move) × (t ≡ run_with_losses s moves)

-- An event changes no set.

settled-minimal : (s : Stored) (k : ℕ) (o : Outcome) → Minimal s → Minimal (settled s k o).next
unfolding settled accepted_state with_desk with_accepted
settled-minimal s k o m = by_bool (eqb o.code 0) (λ c. rw c m) (λ c. rw c m)

pub event-minimal : (s : Stored) (e : Event) → Minimal s → Minimal (Earlier.event s e).next
unfolding Earlier.event Earlier.tested Earlier.played
event-minimal s e m =
    by_bool (eqb (length s.list) message_limit)
    (λ a. by_bool (Earlier.well_shaped s) (λ b. rw (a, b) (settled-minimal s (actor e) _ m)) (λ b. rw (a, b) m))
    (λ a. rw a m)

module _ (s : Stored) (e : Event) (m : Minimal s) (u : Unnumbered s) where
  next-same : (Earlier.event s e).next ≡ (without_numbers s (event s e)).next
  unfolding EarlierEvent
  next-same = ap (λ (a : Answer). a.next) (earlier-event s e m u)

  pub event-moves : Moves s (Earlier.event s e).next
  unfolding without_numbers run_with_losses moved
  event-moves =
      by_bool (eqb (event s e).code 0)
      (λ c. (happens e ∷ loses (λ i. true) ∷ [], rw c at next-same))
      (λ c. ([], rw c at next-same))

  pub event-unnumbered : Unnumbered (Earlier.event s e).next
  unfolding without_numbers with_lost
  event-unnumbered =
      rw next-same
      (by_bool (eqb (event s e).code 0)
      (λ c. rw (c, take-lost (λ i. true) (event s e).next.count (event s e).next.list, lost-twice (under_way (event s e).next)))
      (λ c. rw c u))

pub run-moves : (es : List Event) (s : Stored) → Minimal s → Unnumbered s → Moves s (Earlier.run s es)
unfolding Earlier.run run_with_losses
run-moves [] s m u = ([], refl)
run-moves (e ∷ es) s m u =
    let (one, p) = event-moves s e m u in
    let (more, q) = run-moves es (Earlier.event s e).next (event-minimal s e m) (event-unnumbered s e m u) in
    (one ++ more, q ∙ ap (λ (x : Stored). run_with_losses x more) p ∙ sym (moves-append s one more))

pub run-unnumbered : (es : List Event) (s : Stored) → Minimal s → Unnumbered s → Unnumbered (Earlier.run s es)
unfolding Earlier.run
run-unnumbered [] s m u = u
run-unnumbered (e ∷ es) s m u = run-unnumbered es (Earlier.event s e).next (event-minimal s e m) (event-unnumbered s e m u)

fresh-minimal : (n : ℕ) (sets : List ℕ) (list : List Message) → setup_code n sets ≡ 0 → Minimal (fresh n sets list)
unfolding fresh fresh_tables fresh_rig
fresh-minimal n sets list passed = kept-minimal n sets (accepts n sets passed) ∙ setup-minimal n sets passed

pub earlier-covered : EarlierCovered
unfolding EarlierCovered fresh lost
earlier-covered n sets list es passed = run-moves es (fresh n sets list) (fresh-minimal n sets list passed) refl

pub earlier-unnumbered : EarlierUnnumbered
unfolding EarlierUnnumbered fresh lost
earlier-unnumbered n sets list es passed = run-unnumbered es (fresh n sets list) (fresh-minimal n sets list passed) refl
