-- The tests of an entry, 0 or not.
use Prim.Native.Nat.{ℕ}
use mathlib.Core.Path.{◌≡◌}
use mathlib.Core.Bool.{Bool, true, false, ◌&&◌, ◌||◌, cond}
use mathlib.Core.List.{List}
use lib.Dec.{eqb}
use borrow.Author.Tests.{eqb-true}
use Rattle.rig.specs.Limits.{HEIR, QUEUED}
use Rattle.basics.proofs.Basics.{by_bool}
use Rattle.model.specs.State.{has_member}
use Rattle.model.specs.Shape.{is_number, entry_shaped, own_shaped, heir_shaped, queued_shaped}
use Rattle.shape_cells.specs.Cells.{cell_shaped}

-- 0, or a number of a member
entry_tests : (t : Bool) (n : ℕ) → entry_shaped t n ≡ eqb n 0 || (is_number n && t)
unfolding entry_shaped is_number
entry_tests true n = by_bool (eqb n 0) (λ e. rw (eqb-true n 0 e)) (λ e. by_bool (is_number n) (λ f. rw (e, f)) (λ f. rw (e, f)))
entry_tests false n = by_bool (eqb n 0) (λ e. rw e) (λ e. by_bool (is_number n) (λ f. rw (e, f)) (λ f. rw (e, f)))

pub cell_tests : (which : ℕ) (sets : List ℕ) (a b n : ℕ) → cell_shaped which sets a b n
    ≡ eqb n 0 || cond (eqb which HEIR) (has_member sets a b && has_member sets n b) (cond (eqb which QUEUED) (is_number n && has_member sets b a) (is_number n && has_member sets a b))
unfolding cell_shaped own_shaped heir_shaped queued_shaped
cell_tests which sets a b n =
    by_bool (eqb which HEIR)
    (λ e. rw e)
    (λ e. by_bool (eqb which QUEUED)
    (λ f. rw (e, f) (entry_tests (has_member sets b a) n))
    (λ f. rw (e, f) (entry_tests (has_member sets a b) n)))

-- 0 passes in every table
pub cell-none : (which : ℕ) (sets : List ℕ) (a b : ℕ) → cell_shaped which sets a b 0 ≡ true
cell-none which sets a b = cell_tests which sets a b 0
