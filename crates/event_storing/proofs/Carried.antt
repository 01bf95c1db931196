-- What a rule's call carried out, with nothing sent before, is its effect; and the messages that stay.
use Prim.Native.Nat.{ℕ, ◌≤◌}
use mathlib.Core.Path.{◌≡◌, sym, ap, ◌∙◌}
use mathlib.Core.Bool.{true}
use mathlib.Core.List.{List, map}
use native.Mathlib.Omega.{arith}
use lib.ListN.{length, take, length-map, length-take, take-append-drop}
use Rattle.rig.specs.declared.Desk.{Desk}
use Rattle.rig.specs.declared.Message.{Message}
use Rattle.rig.specs.Limits.{SiteNumber}
use Rattle.model.specs.State.{in_range}
use Rattle.model.specs.Desk.{Effect}
use Rattle.model.specs.Event.{possible, judged}
use Rattle.model.proofs.Shaped.{within}
use Rattle.list_rows.specs.Rows.{row_of, message_of}
use Rattle.list_rows.proofs.Rows.{messages-of-rows}
use Rattle.list_room.proofs.Without.{without-none}
use Rattle.event_effects.specs.declared.Acted.{Acted}
use Rattle.event_effects.specs.Effects.{CarriesOut}
use Rattle.event_storing.specs.Leaves.{messages_in, effect_of, staying}
use Rattle.event_storing.specs.Outbox.{outbox_after}
use Rattle.event_storing.specs.Needs.{SiteReady}

module _ {e : Effect} {rows after : List (List ℕ)} {a : Acted} (d : CarriesOut e 0 rows after a) where
  pub carried-effect : effect_of a after ≡ e
  carried-effect = λ i. record { desk = d.desk i; sent = (ap (λ (r : List (List ℕ)). map message_of r) d.appends.sent ∙ messages-of-rows e.sent) i }

  pub carried-fits : a.count ≤ length after
  carried-fits =
      let l : length (take a.count after) ≡ length e.sent = rw d.appends.sent (length-map e.sent row_of) in
      let m = length-take a.count after in
      let n = d.appends.count in
      omega arith

  pub carried-outbox : (rest : List Message) → after ≡ outbox_after (possible e rest) rows
  unfolding outbox_after
  carried-outbox rest =
      let n = d.appends.count in
      let m : a.count ≡ length e.sent = omega arith in
      sym (take-append-drop a.count after) ∙ rw (d.appends.sent, d.appends.rest, m)

-- where none is taken off, all stay
pub all_stay : (n : ℕ) (rows : List (List ℕ)) → staying n n rows ≡ messages_in n rows
all_stay n rows = ap (λ (r : List (List ℕ)). map message_of r) (without-none n rows)

pub same-judged : (accepted : ℕ) (d : Desk) (ms : List Message) {e f : Effect} {x y : List Message} → e ≡ f → x ≡ y → judged accepted d ms (possible e x) ≡ judged accepted d ms (possible f y)
same-judged accepted d ms p q = λ i. judged accepted d ms (possible (p i) (q i))

-- the number of a site of 1 to N
pub site-number : {d : Desk} {n : ℕ} {rows : List (List ℕ)} → SiteReady d n rows → in_range d.size d.number ≡ true → SiteNumber d.number
site-number {d} r e = let w = within d.size d.number e in let z = r.size in record { low = w.0; high = omega (arith, w.1) }
