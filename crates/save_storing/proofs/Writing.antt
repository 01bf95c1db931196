-- Writing, case by case.
use Prim.Native.Nat.{ℕ, ◌≤◌, ◌<◌}
use mathlib.Core.Bool.{true, false}
use mathlib.Core.List.{List, ◌++◌}
use mathlib.Core.Logic.{◌≢◌}
use mathlib.Core.Path.{◌≡◌}
use native.Mathlib.Nat.{zero-add}
use native.Mathlib.Omega.{arith}
use lib.ListN.{length, take, drop}
use lib.Seq.{sets, sets-eq}
use borrow.Author.Tests.{eq-eqb, ne_eqb, lt-ltb, le-ltb}
use Rattle.model.specs.State.{Stored}
use Rattle.model.specs.Shape.{well_shaped}
use Rattle.player_bytes.specs.Wrote.{Wrote}
use Rattle.player_printing.specs.Printing.{Printed}
use Rattle.save_text.specs.Text.{text_of}
use Rattle.save_text.specs.Calls.{refused_to, stored_in}
use Rattle.save_storing.specs.Buffers.{written_with}

module _ (code : ℕ) (s : Stored) (buffer : List ℕ) where
  pub coded : code ≢ 0 → refused_to buffer code ≡ written_with code s buffer
  unfolding written_with
  coded h = rw (ne_eqb code 0 h)

  module _ (e : code ≡ 0) where
    pub misshapen : well_shaped s ≡ false → refused_to buffer 10 ≡ written_with code s buffer
    unfolding written_with
    misshapen f = rw (eq-eqb code 0 e, f)

    module _ (w : well_shaped s ≡ true) {page printed : List ℕ} {n : ℕ} (p : Printed (text_of s) page printed n) where
      pub too_short : length buffer < n → refused_to buffer 15 ≡ written_with code s buffer
      unfolding written_with stored_in
      too_short h = rw (eq-eqb code 0 e, w, lt-ltb (length buffer) (length (text_of s)) (omega (arith, p.count)))

      -- the printed text stored at the front of the buffer
      pub at_front : {after : List ℕ} {next : ℕ} → n ≤ length buffer → Wrote (take n printed) 0 buffer after next
          → record { code = 0; size = n; buffer = after } ≡ written_with code s buffer
      unfolding written_with stored_in
      at_front h o =
          let c = p.count in
          let front : sets buffer 0 (text_of s) ≡ text_of s ++ drop (length (text_of s)) buffer = rw (zero-add (length (text_of s))) at (sets-eq (text_of s) buffer 0 (omega arith)) in
          rw (eq-eqb code 0 e, w, le-ltb (length buffer) (length (text_of s)) (omega arith), o.stored, p.text, front, ← c)
