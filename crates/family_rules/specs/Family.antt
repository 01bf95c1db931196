-- Document 01, "Request set families", and request 2.1: the families by their rules, and the sets of each.
use Rattle.std.specs.Prelude.{ℕ, Bool, true, ◌≡◌, List}
use Rattle.basics.specs.Helpers.{count}
use Rattle.model.specs.Setup.{setup_code}
use Rattle.family_sets.specs.Meeting.{SiteTo}
use Rattle.family_sets.specs.Rule.{is_entry, set_by, sets_by}
use Rattle.family_rules.specs.declared.Family.{Family}
use Rattle.family_rules.specs.declared.Family.TheVariants.{Grid, Billiard, Plane, Levels}
use Rattle.family_grid.specs.Grid.{side_listed, grid_size, grid_width, grid_entry, grid_members}
use Rattle.family_billiard.specs.Billiard.{q_listed, q_computed, billiard_size, billiard_entry}
use Rattle.family_levels.specs.Levels.{sides_listed, levels_size, levels_width, levels_members, levels_entry}
use Rattle.family_plane.specs.Plane.{p_listed, plane_size, plane_width, plane_entry}

-- "side s from 1 to 5", "q of 3, 5 or 7", "p of 2, 3 or 5", "sides a, b and c, each at least 1, product at most 31"
unfoldable pub listed : Family → Bool
listed (Grid s) = side_listed s
listed (Billiard q) = q_listed q
listed (Plane p) = p_listed p
listed (Levels a b c) = sides_listed a b c

-- what the code has sets of: the listed ones, and the billiard of q = 9
unfoldable pub computed : Family → Bool
computed (Grid s) = side_listed s
computed (Billiard q) = q_computed q
computed (Plane p) = p_listed p
computed (Levels a b c) = sides_listed a b c

-- the number of sites, N
unfoldable pub size_of : Family → ℕ
size_of (Grid s) = grid_size s
size_of (Billiard q) = billiard_size q
size_of (Plane p) = plane_size p
size_of (Levels a b c) = levels_size a b c

-- how many entries name the members of a site's set
unfoldable pub width_of : Family → ℕ
width_of (Grid s) = grid_width s
width_of (Billiard q) = q
width_of (Plane p) = plane_width p
width_of (Levels a b c) = levels_width a b c

-- how many sites each set has: some entries of a grid and of levels name a site twice
unfoldable pub members_of : Family → ℕ
members_of (Grid s) = grid_members s
members_of (Billiard q) = q
members_of (Plane p) = plane_width p
members_of (Levels a b c) = levels_members a b c

-- the k-th site named for the set of site n, k from 1
unfoldable pub entry : Family → ℕ → ℕ → ℕ
entry (Grid s) = grid_entry s
entry (Billiard q) = billiard_entry q
entry (Plane p) = plane_entry p
entry (Levels a b c) = levels_entry a b

-- the rule names site m for the set of site n
abbrev pub has_site : Family → ℕ → ℕ → Bool
has_site f = is_entry (entry f) (width_of f)

-- the set of site n; "Entries past N become empty."
abbrev pub set_at : Family → ℕ → ℕ
set_at f = set_by (has_site f) (size_of f)

-- the buffer of sets
abbrev pub sets_of : Family → List ℕ
sets_of f = sets_by (has_site f) (size_of f)

-- all sets of one family are equally large
abbrev pub EquallyLarge : Type 0
EquallyLarge = (f : Family) → listed f ≡ true → (n : ℕ) → SiteTo (size_of f) n → count (has_site f n) (size_of f) ≡ members_of f

-- so that setup accepts the sets of each: no code of 13, 1, 2 and 3, and by request 2.6 no 17
abbrev pub FamilyAccepted : Type 0
FamilyAccepted = (f : Family) → listed f ≡ true → setup_code (size_of f) (sets_of f) ≡ 0
