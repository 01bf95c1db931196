-- A line on a page of spaces.
use Prim.Native.Nat.{ℕ, ◌+◌, ◌-◌, ◌≤◌}
use mathlib.Core.List.{List, ◌++◌}
use mathlib.Core.Path.{◌≡◌, sym, ap, ◌∙◌}
use native.Mathlib.Omega.{arith}
use lib.ListN.{length, drop, replicate, length-replicate, replicate-append-replicate}
use lib.Seq.{drop_at}
use Rattle.player_printing.specs.Printing.{page_length, Printed}
use Rattle.player_printing.proofs.Lines.{printed-part, printed-whole}
use Rattle.client_pages.specs.Spaced.{spaced}

drop-same : (k n x : ℕ) → k ≤ n → drop k (replicate n x) ≡ replicate (n - k) x
drop-same k n x h =
    let e : n ≡ k + (n - k) = omega arith in
    ap (λ (i : ℕ). drop k (replicate i x)) e
    ∙ ap (λ (l : List ℕ). drop k l) (sym (replicate-append-replicate k (n - k) x))
    ∙ drop_at (replicate k x) (replicate (n - k) x) k (length-replicate k x)

pub on-spaces : {line after : List ℕ} {n : ℕ} → Printed line (replicate page_length 32) after n → after ≡ spaced line
unfolding spaced
on-spaces {line} {after} {n} p =
    let few : length line ≤ page_length = omega (arith, (printed-part p).0, p.long, p.count) in
    printed-whole p ∙ ap (λ (l : List ℕ). line ++ l) (drop-same (length line) page_length 32 few)
