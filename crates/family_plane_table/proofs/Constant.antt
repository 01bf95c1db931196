-- The constant table of the plane of p = 5, read at a place.
use Prim.Native.Nat.{ℕ, zero, suc, ◌+◌, ◌/◌, ◌%◌, ◌<◌}
use mathlib.Core.Path.{◌≡◌}
use native.Mathlib.Nat.{add-zero, zero-add, add-suc, suc-add}
use native.Mathlib.Omega.{arith}
use lib.ListN.{get_or}
use Rattle.family_plane.specs.Plane.{plane_entry}
use Rattle.family_plane_table.specs.Table.{members_from, plane_table}

-- the member at place t, counted from 0, by the rule
abbrev rule : ℕ → ℕ
rule t = plane_entry 5 (1 + t / 6) (1 + t % 6)

from : (t n k : ℕ) → k < n → get_or (members_from t n) k 0 ≡ rule (t + k)
unfolding members_from
from t zero k h = absurd (omega arith)
from t (suc n) zero h = rw add-zero
from t (suc n) (suc k) h = rw (add-suc, ← suc-add) (from (suc t) n k (omega arith))

-- the table's rule, carried to each place
pub table_at : (k : ℕ) → k < 186 → get_or plane_table k 0 ≡ rule k
table_at k h = rw zero-add at (from 0 186 k h)
