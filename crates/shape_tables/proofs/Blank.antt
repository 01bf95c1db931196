-- How a row of zeros is told, and that it passes.
use Prim.Native.Nat.{ℕ}
use mathlib.Core.Path.{◌≡◌}
use mathlib.Core.Bool.{true, ◌&&◌}
use mathlib.Core.List.{List}
use native.Mathlib.Omega.{arith}
use lib.Bits.{bit_or, or_add_and, and_le_l, and_le_r}
use lib.Dec.{eqb}
use borrow.Author.Tests.{eqb-true, eqb-false, eq-eqb, ne_eqb}
use Rattle.rig.specs.Limits.{site_limit}
use Rattle.basics.specs.Helpers.{all}
use Rattle.basics.proofs.Basics.{by_bool, all-at, all_of}
use Rattle.model.specs.Tables.{at}
use Rattle.shape_cells.specs.Cells.{cell_shaped}
use Rattle.shape_cells.proofs.Cells.{cell-none}

-- an OR is 0 where both numbers are
pub or-zero : (a b : ℕ) → eqb (bit_or a b) 0 ≡ eqb a 0 && eqb b 0
or-zero a b =
    let s = or_add_and a b in
    let l = and_le_l a b in
    let r = and_le_r a b in
    by_bool (eqb a 0)
    (λ e. let z = eqb-true a 0 e in by_bool (eqb b 0)
    (λ f. let y = eqb-true b 0 f in rw (e, f) (eq-eqb (bit_or a b) 0 (omega arith)))
    (λ f. let y = eqb-false b 0 f in rw (e, f) (ne_eqb (bit_or a b) 0 (λ o. y (omega arith)))))
    (λ e. let z = eqb-false a 0 e in rw e (ne_eqb (bit_or a b) 0 (λ o. z (omega arith))))

pub row-none : (which : ℕ) (sets : List ℕ) (a : ℕ) (row : List ℕ) → all (λ b. eqb (at 0 row b) 0) site_limit ≡ true
    → all (λ b. cell_shaped which sets a b (at 0 row b)) site_limit ≡ true
row-none which sets a row h =
    all_of _ site_limit (λ b l u. rw (eqb-true (at 0 row b) 0 (all-at _ site_limit b h l u)) (cell-none which sets a b))
