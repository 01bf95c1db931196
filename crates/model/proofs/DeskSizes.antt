-- No rule changes how long the rows of a desk are.
use Prim.Native.Nat.{ℕ, zero, suc}
use mathlib.Core.Path.{refl, ◌∙◌, ap}
use mathlib.Core.Bool.{not, ◌&&◌}
use lib.Dec.{eqb}
use lib.ListN.{length}
use Rattle.basics.proofs.Basics.{by_bool}
use Rattle.rig.specs.declared.Desk.{Desk}
use Rattle.rig.specs.declared.Message.{Message}
use Rattle.rig.specs.Messages.{REQUEST, REPLY, RELEASE, INQUIRE, FAIL, YIELD, TRANSFER}
use Rattle.model.specs.Desk.{waits, has_failed, held_for, inquired_for}
use Rattle.model.specs.Ask.{asked}
use Rattle.model.specs.Leave.{left}
use Rattle.model.specs.Arbiter.{clock_raised, on_request}
use Rattle.model.specs.Site.{failed_set, yielded, all_held, entered, taken, entered_or_yielded, takes, on_reply, remembered, yielded_or_remembered, on_inquire, must_yield, yielded_if, yielded_up_to, fail_counts, on_fail, names_held, on_transfer}
use Rattle.model.specs.Deliver.{delivered}
use Rattle.model.proofs.Tables.{length-put}
use Rattle.model.proofs.Machine.{DeskSized}
use Rattle.model.proofs.ArbiterRules.{SiteKept, request-kept, release-kept, yield-kept}

of-kept : (d u : Desk) → DeskSized d → SiteKept d u → DeskSized u
of-kept d u y k = record { held = ap length k.held ∙ y.held; heir = ap length k.heir ∙ y.heir; inquired = ap length k.inquired ∙ y.inquired; queued = k.queued }

module _ (d : Desk) (y : DeskSized d) where
  pub asked-sized : DeskSized (asked d).desk
  unfolding asked
  asked-sized = record { held = refl; heir = refl; inquired = refl; queued = y.queued }

  pub left-sized : DeskSized (left d).desk
  unfolding left
  left-sized = record { held = refl; heir = refl; inquired = refl; queued = y.queued }

  request-sized : (k n : ℕ) → DeskSized (on_request d k n).desk
  unfolding on_request clock_raised
  request-sized k n =
      let u = clock_raised d n in
      of-kept u _ (record { held = y.held; heir = y.heir; inquired = y.inquired; queued = y.queued }) (request-kept u k n y.queued)

  yielded-sized : (j : ℕ) → DeskSized (yielded d j).desk
  unfolding yielded failed_set
  yielded-sized j = record { held = length-put d.held j 0 ∙ y.held; heir = length-put d.heir j 0 ∙ y.heir; inquired = length-put d.inquired j 0 ∙ y.inquired; queued = y.queued }

  taken-sized : (j n : ℕ) → DeskSized (taken d j n)
  unfolding taken
  taken-sized j n = record { held = length-put d.held j n ∙ y.held; heir = y.heir; inquired = length-put d.inquired j _ ∙ y.inquired; queued = y.queued }

  remembered-sized : (j n : ℕ) → DeskSized (remembered d j n)
  unfolding remembered
  remembered-sized j n = record { held = y.held; heir = y.heir; inquired = length-put d.inquired j n ∙ y.inquired; queued = y.queued }

  entered-sized : DeskSized (entered d)
  unfolding entered
  entered-sized = record { held = y.held; heir = y.heir; inquired = refl; queued = y.queued }

  failed-sized : DeskSized (failed_set d)
  unfolding failed_set
  failed-sized = record { held = y.held; heir = y.heir; inquired = y.inquired; queued = y.queued }

  inquire-sized : (j n : ℕ) → DeskSized (on_inquire d j n).desk
  unfolding on_inquire yielded_or_remembered
  inquire-sized j n =
      by_bool (waits d)
      (λ w. by_bool (eqb (held_for d j) 0)
      (λ e. rw (w, e) (remembered-sized j n))
      (λ e. by_bool (eqb n (held_for d j))
      (λ f. by_bool (has_failed d) (λ g. rw (w, e, f, g) (yielded-sized j)) (λ g. rw (w, e, f, g) (remembered-sized j n)))
      (λ f. rw (w, e, f) y)))
      (λ w. rw w y)

  yielded_if-sized : (j : ℕ) → DeskSized (yielded_if d j).desk
  unfolding yielded_if
  yielded_if-sized j = by_bool (must_yield d j) (λ e. rw e (yielded-sized j)) (λ e. rw e y)

  transfer-sized : (j x n : ℕ) → DeskSized (on_transfer d j x n).desk
  unfolding on_transfer
  transfer-sized j x n =
      by_bool (names_held d j n)
      (λ e. rw e (record { held = y.held; heir = length-put d.heir j x ∙ y.heir; inquired = y.inquired; queued = y.queued }))
      (λ e. rw e y)

reply-sized : (d : Desk) (j n : ℕ) → DeskSized d → DeskSized (on_reply d j n).desk
unfolding on_reply entered_or_yielded
reply-sized d j n y =
    let u = taken d j n in
    let c = taken-sized d y j n in
    by_bool (takes d j)
    (λ e. by_bool (all_held u)
    (λ f. rw (e, f) (entered-sized u c))
    (λ f. by_bool (has_failed u && not (eqb (inquired_for u j) 0)) (λ g. rw (e, f, g) (yielded-sized u c j)) (λ g. rw (e, f, g) c)))
    (λ e. rw e y)

yielded_up_to-sized : (d : Desk) (i : ℕ) → DeskSized d → DeskSized (yielded_up_to d i).desk
unfolding yielded_up_to
yielded_up_to-sized d zero y = y
yielded_up_to-sized d (suc i) y = yielded_if-sized (yielded_up_to d i).desk (yielded_up_to-sized d i y) (suc i)

fail-sized : (d : Desk) (n : ℕ) → DeskSized d → DeskSized (on_fail d n).desk
unfolding on_fail
fail-sized d n y = by_bool (fail_counts d n) (λ e. rw e (yielded_up_to-sized (failed_set d) d.size (failed-sized d y))) (λ e. rw e y)

pub delivered-sized : (d : Desk) (m : Message) → DeskSized d → DeskSized (delivered d m).desk
unfolding delivered
delivered-sized d m y =
    by_bool (eqb m.kind REQUEST) (λ e. rw e (request-sized d y m.from m.number))
    (λ e1. by_bool (eqb m.kind REPLY) (λ e. rw (e1, e) (reply-sized d m.about m.number y))
    (λ e2. by_bool (eqb m.kind RELEASE) (λ e. rw (e1, e2, e) (of-kept d _ y (release-kept d m.from m.about m.number y.queued)))
    (λ e3. by_bool (eqb m.kind INQUIRE) (λ e. rw (e1, e2, e3, e) (inquire-sized d y m.from m.number))
    (λ e4. by_bool (eqb m.kind FAIL) (λ e. rw (e1, e2, e3, e4, e) (fail-sized d m.number y))
    (λ e5. by_bool (eqb m.kind YIELD) (λ e. rw (e1, e2, e3, e4, e5, e) (of-kept d _ y (yield-kept d m.from m.number y.queued)))
    (λ e6. by_bool (eqb m.kind TRANSFER) (λ e. rw (e1, e2, e3, e4, e5, e6, e) (transfer-sized d y m.from m.about m.number))
    (λ e7. rw (e1, e2, e3, e4, e5, e6, e7) y)))))))
