-- Request 2.1: "Opera houses number their desks by row, bay and level. Add a family with sides a, b and c, each at least 1, product at most 31.
-- Site (a', b', c') takes every site of level c' and every site with row a' and bay b'. Sites are numbered level by level, row by row."
use Rattle.std.specs.Prelude.{ℕ, ◌+◌, ◌-◌, ◌*◌, ◌/◌, ◌%◌, ◌≤◌, ◌≡◌, Bool, ◌&&◌, ◌||◌, cond, eqb, leb}
use Rattle.rig.specs.Limits.{site_limit}
use Rattle.basics.specs.Helpers.{count}
use Rattle.family_sets.specs.Meeting.{SiteTo, Common}
use Rattle.family_sets.specs.Rule.{is_entry}

-- "sides a, b and c, each at least 1, product at most 31": a rows, b bays and c levels
unfoldable pub sides_listed : ℕ → ℕ → ℕ → Bool
sides_listed a b c = leb 1 a && (leb 1 b && (leb 1 c && leb (a * b * c) site_limit))

abbrev pub levels_size : ℕ → ℕ → ℕ → ℕ
levels_size a b c = a * b * c

-- the a × b sites of a level, and the c sites with a row and a bay
abbrev pub levels_width : ℕ → ℕ → ℕ → ℕ
levels_width a b c = a * b + c

-- how many sites a set has: the level, and one site of each other level
abbrev pub levels_members : ℕ → ℕ → ℕ → ℕ
levels_members a b c = a * b + c - 1

-- "level by level, row by row": the site at a row, a bay and a level, each from 1
abbrev pub levels_site : ℕ → ℕ → ℕ → ℕ → ℕ → ℕ
levels_site a b row bay level = (level - 1) * (a * b) + (row - 1) * b + bay

abbrev pub level_of : ℕ → ℕ → ℕ → ℕ
level_of a b n = 1 + (n - 1) / (a * b)

abbrev pub row_of : ℕ → ℕ → ℕ → ℕ
row_of a b n = 1 + (n - 1) % (a * b) / b

abbrev pub bay_of : ℕ → ℕ → ℕ → ℕ
bay_of a b n = 1 + (n - 1) % (a * b) % b

-- "every site of level c'": with the row and the bay of each site k of the first level; then "every site with row a' and bay b'": on each level
unfoldable pub levels_entry : ℕ → ℕ → ℕ → ℕ → ℕ
levels_entry a b n k =
    cond (leb k (a * b))
    (levels_site a b (row_of a b k) (bay_of a b k) (level_of a b n))
    (levels_site a b (row_of a b n) (bay_of a b n) (k - a * b))

-- every site has a row, a bay and a level, and is the site at these
abbrev pub SitesPlaced : Type 0
SitesPlaced =
    (a b c : ℕ) → 1 ≤ a → 1 ≤ b → 1 ≤ c → (n : ℕ) → SiteTo (levels_size a b c) n
    → SiteTo a (row_of a b n) × SiteTo b (bay_of a b n) × SiteTo c (level_of a b n) × (levels_site a b (row_of a b n) (bay_of a b n) (level_of a b n) ≡ n)

-- the site at a row, a bay and a level is one of the family's, and has these
abbrev pub PlacesNumbered : Type 0
PlacesNumbered =
    (a b c : ℕ) → 1 ≤ a → 1 ≤ b → 1 ≤ c → (row bay level : ℕ) → SiteTo a row → SiteTo b bay → SiteTo c level
    → let n = levels_site a b row bay level in
    SiteTo (levels_size a b c) n × (row_of a b n ≡ row) × (bay_of a b n ≡ bay) × (level_of a b n ≡ level)

-- the entries as a test: site m is in the set of site n
abbrev pub in_levels : ℕ → ℕ → ℕ → ℕ → ℕ → Bool
in_levels a b c = is_entry (levels_entry a b) (levels_width a b c)

-- "Site (a', b', c') takes every site of level c' and every site with row a' and bay b'", and no other
abbrev pub TakesLevelAndBay : Type 0
TakesLevelAndBay =
    (a b c : ℕ) → 1 ≤ a → 1 ≤ b → 1 ≤ c → (n m : ℕ) → SiteTo (levels_size a b c) n → SiteTo (levels_size a b c) m
    → in_levels a b c n m ≡ eqb (level_of a b m) (level_of a b n) || (eqb (row_of a b m) (row_of a b n) && eqb (bay_of a b m) (bay_of a b n))

-- "Show for all sides that two sets meet."
abbrev pub LevelsMeet : Type 0
LevelsMeet =
    (a b c : ℕ) → 1 ≤ a → 1 ≤ b → 1 ≤ c → (n m : ℕ) → SiteTo (levels_size a b c) n → SiteTo (levels_size a b c) m
    → Common (levels_size a b c) (in_levels a b c n) (in_levels a b c m)

-- request 2.6: for all sides the sets are equally large
abbrev pub LevelsEqual : Type 0
LevelsEqual =
    (a b c : ℕ) → 1 ≤ a → 1 ≤ b → 1 ≤ c → (n : ℕ) → SiteTo (levels_size a b c) n
    → count (in_levels a b c n) (levels_size a b c) ≡ levels_members a b c

-- what the inner calls ask of the rows and bays of a level
abbrev pub LevelFits : ℕ → ℕ → Type 0
LevelFits a b = SiteTo site_limit a × SiteTo site_limit b × SiteTo site_limit (a * b)
