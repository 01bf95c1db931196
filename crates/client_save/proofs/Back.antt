-- A state's text on a page, and what is read of it.
use Prim.Native.Nat.{ℕ, ◌≤◌}
use mathlib.Core.Bool.{true}
use mathlib.Core.List.{List, ◌++◌}
use mathlib.Core.Path.{◌≡◌, ap}
use native.Mathlib.Omega.{arith}
use lib.ListN.{length, drop}
use lib.Seq.{take-append_seam}
use borrow.Author.Tests.{eq-eqb, le-ltb}
use Rattle.rig.specs.Limits.{message_limit}
use Rattle.model.specs.State.{Stored}
use Rattle.model.specs.Shape.{well_shaped}
use Rattle.model.specs.Event.{answer}
use Rattle.save_text.specs.Text.{text_of}
use Rattle.save_text.specs.Calls.{Written, written, read_into, or_refused, stored_in}
use Rattle.save_text.specs.Claims.{IsState, kept, longest, ReadBack, NoneLonger}
use Rattle.save_runs.specs.Breaks.{saved_in}
use Rattle.client_save.specs.Saved.{ReadBackFrom}

module _ (back : ReadBack) (short : NoneLonger) (page : List ℕ) (lent s : Stored) (room : longest ≤ length page) (is : IsState s) (shaped : well_shaped s ≡ true) where
  on-page : written s page ≡ record { code = 0; size = length (text_of s); buffer = text_of s ++ drop (length (text_of s)) page }
  unfolding written stored_in NoneLonger
  on-page =
      let l : length (text_of s) ≤ longest = short s shaped in
      rw (eq-eqb (length s.list) message_limit is.list, shaped, le-ltb (length page) (length (text_of s)) (omega arith))

  text-read : length lent.list ≡ message_limit → read_into (text_of s) lent ≡ answer 0 (kept s)
  unfolding read_into or_refused ReadBack
  text-read long = rw (eq-eqb (length lent.list) message_limit long, back s is shaped)

  pub reads-back : length lent.list ≡ message_limit → ReadBackFrom page lent s
  unfolding saved_in
  reads-back long = record {
    code = ap (λ (w : Written). w.code) on-page;
    read = rw (on-page, take-append_seam (text_of s) (drop (length (text_of s)) page)) (text-read long);
  }
