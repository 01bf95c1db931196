-- A whole line at the start of a page.
use Prim.Native.Nat.{ℕ, ◌≤◌}
use mathlib.Core.List.{List, ◌++◌}
use mathlib.Core.Path.{◌≡◌, sym, ap, ◌∙◌}
use native.Mathlib.Nat.{zero-add}
use native.Mathlib.Omega.{arith}
use lib.ListN.{length, take, drop, length-take, take-append-drop}
use lib.Seq.{length-sets, sets-eq, take-append_seam, drop-append_seam}
use Rattle.player_printing.specs.Printing.{Printed}
use Rattle.player_bytes.specs.Wrote.{Wrote}

module _ {line page after : List ℕ} {r : ℕ} where
  pub wrote-line : Wrote line 0 page after r → r ≤ length page → Printed line page after r
  wrote-line w h =
      let b = w.behind in
      let e : r ≡ length line = b ∙ zero-add _ in
      let p : after ≡ line ++ drop (length line) page = w.stored ∙ sets-eq line page 0 (omega arith) ∙ rw zero-add in
      record { count = e; text = rw (e, p) (take-append_seam line _); rest = rw (e, p) (drop-append_seam line _); long = rw w.stored (length-sets page 0 line) }

  -- for callers: what `&page[..r]` asks
  pub printed-part : Printed line page after r → (r ≤ length after) × (r ≡ length (take r after))
  printed-part p =
      let e : r ≡ length (take r after) = p.count ∙ ap length (sym p.text) in
      (omega (arith, length-take r after), e)

  -- and the whole page
  pub printed-whole : Printed line page after r → after ≡ line ++ drop (length line) page
  printed-whole p =
      sym (take-append-drop r after)
      ∙ ap (λ (l : List ℕ). l ++ drop r after) p.text
      ∙ ap (λ (l : List ℕ). line ++ l) p.rest
      ∙ ap (λ (k : ℕ). line ++ drop k page) p.count
