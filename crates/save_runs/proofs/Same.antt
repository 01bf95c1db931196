-- Two states that differ past the messages under way at most: demand 3 holds of both or of neither, and an event leaves two such states.
use mathlib.Core.Path.{◌≡◌, refl, ◌∙◌}
use lib.Dec.{eqb}
use lib.ListN.{length}
use borrow.Author.Tests.{eq-eqb}
use Rattle.basics.proofs.Basics.{by_bool}
use Rattle.rig.specs.declared.Event.{Event}
use Rattle.rig.specs.Limits.{message_limit}
use Rattle.model.specs.State.{Stored, under_way, desk_of}
use Rattle.model.specs.Shape.{well_shaped}
use Rattle.model.specs.Event.{actor, accepted_state, event_at, settled, played, tested, event}
use Rattle.model.specs.Run.{places, stuck, Sound}
use Rattle.save_runs.specs.Breaks.{SameState}

pub same_self : (s : Stored) → SameState s s
same_self s = record { tables = refl; count = refl; messages = refl }

pub same-trans : {r s t : Stored} → SameState r s → SameState s t → SameState r t
same-trans a b = record { tables = a.tables ∙ b.tables; count = a.count ∙ b.count; messages = a.messages ∙ b.messages }

module _ {s t : Stored} (h : SameState s t) where
  pub sound-same : Sound t → Sound s
  unfolding places stuck
  sound-same d = record {
    exclusion = rw h.tables d.exclusion;
    one_place = λ j a b. rw (h.tables, h.messages) (d.one_place j a (rw h.tables at b));
    not_stuck = rw (h.tables, h.count) d.not_stuck;
  }

  pub shaped-same : well_shaped s ≡ well_shaped t
  unfolding well_shaped
  shaped-same = rw (h.messages, h.tables, h.count)

  -- what an event makes at its site
  made-same : (e : Event) → event_at s.tables.rig.accepted (desk_of s.tables (actor e)) (under_way s) e ≡ event_at t.tables.rig.accepted (desk_of t.tables (actor e)) (under_way t) e
  made-same e = rw (h.tables, h.messages)

  -- the same code, and two such states again
  pub event-same : length s.list ≡ message_limit → length t.list ≡ message_limit → (e : Event)
      → ((event s e).code ≡ (event t e).code) × SameState (event s e).next (event t e).next
  unfolding event tested played settled accepted_state
  event-same a b e =
      by_bool (well_shaped t)
      (λ w. by_bool (eqb (event_at t.tables.rig.accepted (desk_of t.tables (actor e)) (under_way t) e).code 0)
      (λ c. rw (eq-eqb _ _ a, eq-eqb _ _ b, shaped-same, w, made-same e, c, h.tables) (refl, record { tables = refl; count = refl; messages = refl }))
      (λ c. rw (eq-eqb _ _ a, eq-eqb _ _ b, shaped-same, w, made-same e, c) (refl, h)))
      (λ w. rw (eq-eqb _ _ a, eq-eqb _ _ b, shaped-same, w) (refl, h))
