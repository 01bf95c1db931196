-- The numbers of a site's asks ascend: its clock never falls, and each ask has a number above it.
use Prim.Native.Nat.{ℕ, ◌≤◌, ◌<◌}
use mathlib.Core.Path.{refl}
use mathlib.Core.Logic.{◌≢◌}
use mathlib.Core.Bool.{◌&&◌}
use mathlib.Core.List.{List}
use mathlib.Core.Option.{Option, none, some}
use native.Mathlib.Omega.{arith}
use lib.Dec.{eqb, leb}
use borrow.Author.Tests.{eqb-true}
use Rattle.basics.specs.Helpers.{update, first, without_first}
use Rattle.protocol.specs.Message.{Message, request, reply, release, hand_over, inquire, fail, yield, transfer}
use Rattle.protocol.specs.Local.{REST, INSIDE}
use Rattle.protocol.specs.Site.{takes}
use Rattle.protocol.specs.System.{System, setting_of}
use Rattle.protocol.specs.Rig.{Sent, Rig, channel, Event, ask, leave, deliver, lose, local_at, rows_taken, asked, left, all_held, delivered, taken_off, step}
use Rattle.basics.proofs.Basics.{by_bool}

module _ (y : System) (k n : ℕ) where
  delivered-clock : (r : Rig) (rest : List Sent) (j : ℕ) (m : Message) → n ≤ r.clock k → n ≤ (delivered y r rest j m).clock k
  unfolding delivered update
  delivered-clock r rest j (request i a) h = by_bool (eqb k j) (λ e. let c : n ≤ r.clock j = rw (← (eqb-true k j e)) h in rw e (omega arith)) (λ e. rw e h)
  delivered-clock r rest j (release i g) h = h
  delivered-clock r rest j (hand_over i x g) h = h
  delivered-clock r rest j (inquire i g) h = h
  delivered-clock r rest j (fail i a) h = h
  delivered-clock r rest j (yield i g) h = h
  delivered-clock r rest j (transfer i x g) h = h
  delivered-clock r rest j (reply f b g) h = h

  taken_off-clock : (r : Rig) (a b : ℕ) (x : Option Sent) → n ≤ r.clock k → n ≤ (taken_off y r a b x).clock k
  unfolding taken_off
  taken_off-clock r a b none h = h
  taken_off-clock r a b (some x) h = delivered-clock r (without_first (channel a b) r.under_way) x.arbiter x.message h

  pub step-clock : (r : Rig) (e : Event) → n ≤ r.clock k → n ≤ (step y r e).clock k
  unfolding step asked left update
  step-clock r (ask s) h = by_bool ((leb 1 s && leb s y.size) && eqb (r.sites.mode s) REST)
      (λ e. rw e (by_bool (eqb k s) (λ u. let c : n ≤ r.clock s = rw (← (eqb-true k s u)) h in rw u (omega arith)) (λ u. rw u h)))
      (λ e. rw e h)
  step-clock r (leave s) h = by_bool (eqb (r.sites.mode s) INSIDE) (λ e. rw e h) (λ e. rw e h)
  step-clock r (deliver a b) h = taken_off-clock r a b (first (channel a b) r.under_way) h
  step-clock r (lose p) h = h

  -- an ask of site k with number n is over: where the site waits, its number is a larger one
  pub record Over (r : Rig) : Type 0 where
    pub clock : n ≤ r.clock k
    pub ask : (r.sites.ask k).number ≢ 0 → n < (r.sites.ask k).number

  delivered-ask : (r : Rig) (rest : List Sent) (j : ℕ) (m : Message) → Over r → ((delivered y r rest j m).sites.ask k).number ≢ 0 → n < ((delivered y r rest j m).sites.ask k).number
  unfolding delivered update
  delivered-ask r rest j (request i a) h = h.ask
  delivered-ask r rest j (release i g) h = h.ask
  delivered-ask r rest j (hand_over i x g) h = h.ask
  delivered-ask r rest j (inquire i g) h = h.ask
  delivered-ask r rest j (fail i a) h = h.ask
  delivered-ask r rest j (yield i g) h = h.ask
  delivered-ask r rest j (transfer i x g) h = h.ask
  delivered-ask r rest j (reply f b g) h =
      by_bool (takes (setting_of y j) (local_at r j) b && all_held y (rows_taken r j b g) b)
      (λ e. rw e (by_bool (eqb k b) (λ u. rw u (λ z. absurd (z refl))) (λ u. rw u h.ask)))
      (λ e. rw e h.ask)

  taken_off-ask : (r : Rig) (a b : ℕ) (x : Option Sent) → Over r → ((taken_off y r a b x).sites.ask k).number ≢ 0 → n < ((taken_off y r a b x).sites.ask k).number
  unfolding taken_off
  taken_off-ask r a b none h = h.ask
  taken_off-ask r a b (some x) h = delivered-ask r (without_first (channel a b) r.under_way) x.arbiter x.message h

  pub step-over : (r : Rig) (e : Event) → Over r → Over (step y r e)
  unfolding step asked left update
  step-over r e h = record { clock = step-clock r e h.clock; ask = step-ask e }
    where
      step-ask : (e : Event) → ((step y r e).sites.ask k).number ≢ 0 → n < ((step y r e).sites.ask k).number
      step-ask (ask s) = by_bool ((leb 1 s && leb s y.size) && eqb (r.sites.mode s) REST)
          (λ e. rw e (by_bool (eqb k s) (λ u. let c : n ≤ r.clock s = rw (← (eqb-true k s u)) h.clock in rw u (λ z. omega arith)) (λ u. rw u h.ask)))
          (λ e. rw e h.ask)
      step-ask (leave s) = by_bool (eqb (r.sites.mode s) INSIDE) (λ e. rw e h.ask) (λ e. rw e h.ask)
      step-ask (deliver a b) = taken_off-ask r a b (first (channel a b) r.under_way) h
      step-ask (lose p) = h.ask
