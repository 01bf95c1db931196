-- Document 01, "Request set families": "Grid (000): side s from 1 to 5, N = s × s, sites row by row; a site's set is its row and its column."
use Rattle.std.specs.Prelude.{ℕ, ◌+◌, ◌-◌, ◌*◌, ◌/◌, ◌%◌, Bool, ◌&&◌, cond, leb}

-- "side s from 1 to 5"
abbrev pub side_listed : ℕ → Bool
side_listed s = leb 1 s && leb s 5

abbrev pub grid_size : ℕ → ℕ
grid_size s = s * s

-- a row and a column: s sites each
abbrev pub grid_width : ℕ → ℕ
grid_width s = s + s

-- "sites row by row": the site at row i, column j, both from 1
abbrev pub grid_site : ℕ → ℕ → ℕ → ℕ
grid_site s i j = (i - 1) * s + j

abbrev pub grid_row : ℕ → ℕ → ℕ
grid_row s n = 1 + (n - 1) / s

abbrev pub grid_column : ℕ → ℕ → ℕ
grid_column s n = 1 + (n - 1) % s

-- "a site's set is its row and its column": the s sites of its row, then the s sites of its column
unfoldable pub grid_entry : ℕ → ℕ → ℕ → ℕ
grid_entry s n k = cond (leb k s) (grid_site s (grid_row s n) k) (grid_site s (k - s) (grid_column s n))

-- how many sites a set has: the row and the column share one
abbrev pub grid_members : ℕ → ℕ
grid_members s = s + s - 1
