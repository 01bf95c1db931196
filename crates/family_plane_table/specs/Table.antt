-- Document 01, "Request set families": "For p = 5 the 186 members ship as a constant table, shown equal to the rule."
use Rattle.std.specs.Prelude.{ℕ, zero, suc, ◌+◌, ◌/◌, ◌%◌, List, [], ◌∷◌}
use Rattle.family_plane.specs.Plane.{plane_entry}

-- the members of all rows for p = 5, one row after the other, six to a row: n of them from place t, counted from 0
unfoldable pub members_from : ℕ → ℕ → List ℕ
members_from t zero = []
members_from t (suc n) = plane_entry 5 (1 + t / 6) (1 + t % 6) ∷ members_from (suc t) n

-- the 186 members
abbrev pub plane_table : List ℕ
plane_table = members_from 0 186
