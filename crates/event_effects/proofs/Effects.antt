-- Messages sent one after the other.
use Prim.Native.Nat.{ℕ, ◌+◌, ◌≤◌}
use mathlib.Core.Path.{◌≡◌, refl, sym, ◌∙◌}
use mathlib.Core.Bool.{Bool, true, false, cond}
use mathlib.Core.List.{List, [], ◌∷◌, ◌++◌, append_assoc, append-nil, map-append}
use native.Mathlib.Omega.{arith}
use lib.ListN.{length, drop, length-append}
use lib.Seq.{drop-drop}
use Rattle.rig.specs.declared.Desk.{Desk}
use Rattle.rig.specs.declared.Message.{Message}
use Rattle.model.specs.Desk.{effect}
use Rattle.list_rows.specs.Rows.{Appends}
use Rattle.event_effects.specs.Effects.{CarriesOut}

-- messages that a test may leave out are at most as many
pub cond_short : (t : Bool) (a : List Message) (k : ℕ) → length a ≤ k → length (cond t a []) ≤ k
cond_short true a k h = h
cond_short false a k h = omega arith

-- rows that are the same from one place on are the same from a later place on
still-behind : (k m r : ℕ) (xs ys : List (List ℕ)) → r ≡ k + m → drop k xs ≡ drop k ys → drop r xs ≡ drop r ys
still-behind k m r xs ys e h = rw (e, ← drop-drop m k xs, ← drop-drop m k ys, h)

-- none
pub sent-none : {n : ℕ} {rows : List (List ℕ)} → Appends [] n rows rows n
sent-none = record { count = omega arith; sent = sym (append-nil _); rest = refl }

module _ {n r : ℕ} {rows after : List (List ℕ)} where
  -- one
  pub sent-one : {m a : Message} → a ≡ m → Appends (a ∷ []) n rows after r → Appends (m ∷ []) n rows after r
  sent-one e p = rw e at p

  -- some, then more
  pub sent-more : {ms ns : List Message} {mid : List (List ℕ)} {k : ℕ} → Appends ms n rows mid k → Appends ns k mid after r → Appends (ms ++ ns) n rows after r
  sent-more {ms} {ns} {mid} {k} a b = record {
    count = simp length-append (omega arith);
    sent = b.sent ∙ rw (a.sent, map-append, append_assoc);
    rest = b.rest ∙ still-behind k (length ns) r mid rows b.count a.rest;
  }

  -- with the desk
  pub carries-sent : {d : Desk} {ms : List Message} → Appends ms n rows after r → CarriesOut (effect d ms) n rows after (record { desk = d; count = r })
  carries-sent s = record { desk = refl; appends = s }
