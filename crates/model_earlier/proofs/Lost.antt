-- What becomes of messages when their fails lose their numbers.
use Prim.Native.Nat.{ℕ, zero, suc, ◌-◌}
use mathlib.Core.Path.{◌≡◌, refl, ap}
use mathlib.Core.Bool.{true}
use mathlib.Core.List.{List, [], ◌∷◌, ◌++◌}
use lib.Dec.{eqb}
use lib.ListN.{length, replicate}
use Rattle.basics.specs.Helpers.{All}
use Rattle.basics.proofs.Basics.{by_bool}
use Rattle.rig.specs.declared.Desk.{Desk}
use Rattle.rig.specs.declared.Message.{Message}
use Rattle.rig.specs.Limits.{message_limit}
use Rattle.rig.specs.Messages.{FAIL}
use Rattle.model.specs.State.{Tables}
use Rattle.model.specs.Event.{blank_message, padded, accepted_state}
use Rattle.model.proofs.Lost.{length-lost}
use Rattle.model.proofs.Sent.{Others}
use Rattle.model.specs.Losses.{unnumbered, lost, lost_all, with_lost}

-- a message that has no number to lose: another kind, or a fail numbered 0
abbrev pub Numberless : Message → Type 0
Numberless m = unnumbered m ≡ m

-- One message

pub numberless-number : (m : Message) → Numberless m → eqb m.kind FAIL ≡ true → 0 ≡ m.number
unfolding unnumbered
numberless-number m h e = ap (λ (x : Message). x.number) (rw e at h)

pub unnumbered-numberless : (m : Message) → Numberless (unnumbered m)
unfolding unnumbered
unnumbered-numberless m = by_bool (eqb m.kind FAIL) (λ e. rw (e, e)) (λ e. rw (e, e))

-- a message that is no fail has no number to lose, so that an ask, a leave and a delivery other than that of a request send nothing that has
pub others : Others Numberless
unfolding unnumbered
others = record {
  requests = λ a b n. refl;
  replies = λ a b j n. refl;
  releases = λ a b x n. refl;
  inquires = λ a b n. refl;
  yields = λ a b n. refl;
  transfers = λ a b x n. refl;
}

-- A list

pub lost-numberless : (ms : List Message) → All Numberless ms → lost_all ms ≡ ms
unfolding lost All
lost-numberless [] a = refl
lost-numberless (m ∷ ms) a = rw (a.0, lost-numberless ms a.1)

pub numberless-lost : (ms : List Message) → lost_all ms ≡ ms → All Numberless ms
unfolding lost All
numberless-lost [] e = tt
numberless-lost (m ∷ ms) e = (cc, numberless-lost ms cc)

pub lost-twice : (ms : List Message) → lost_all (lost_all ms) ≡ lost_all ms
unfolding lost
lost-twice [] = refl
lost-twice (m ∷ ms) = rw (unnumbered-numberless m, lost-twice ms)

pub lost-append : (xs ys : List Message) → lost_all (xs ++ ys) ≡ lost_all xs ++ lost_all ys
unfolding lost
lost-append [] ys = refl
lost-append (x ∷ xs) ys = rw (lost-append xs ys)

pub lost-blank : (k : ℕ) → lost_all (replicate k blank_message) ≡ replicate k blank_message
unfolding lost unnumbered
lost-blank zero = refl
lost-blank (suc k) = rw (lost-blank k)

-- A state after an accepted event

pub lost-padded : (ms : List Message) → lost_all (padded ms) ≡ padded (lost_all ms)
unfolding padded
lost-padded ms = rw (lost-append ms (replicate (message_limit - length ms) blank_message), lost-blank (message_limit - length ms), length-lost (λ i. true) ms)

pub lost-accepted : (t : Tables) (k : ℕ) (d : Desk) (ms : List Message) → accepted_state t k d (lost_all ms) ≡ with_lost (λ i. true) (accepted_state t k d ms)
unfolding accepted_state with_lost
lost-accepted t k d ms = rw (lost-padded ms, length-lost (λ i. true) ms)
