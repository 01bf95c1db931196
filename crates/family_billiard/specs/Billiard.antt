-- Document 01, "Request set families": "Billiard (000): q of 3, 5 or 7, N = (q² − 1)/2; the procedure of its Figure 6, with mod giving 1 to q."
-- But for the listed q, the lines in quotes below are those of Figure 6 of source 000.
use Rattle.std.specs.Prelude.{ℕ, zero, suc, pred, ◌+◌, ◌-◌, ◌*◌, ◌/◌, ◌%◌, ◌≤◌, ◌<◌, ◌≡◌, Bool, true, ◌&&◌, ◌||◌, cond, eqb, ltb, leb}
use Rattle.basics.specs.Helpers.{all}

-- "q of 3, 5 or 7"
abbrev pub q_listed : ℕ → Bool
q_listed q = eqb q 3 || (eqb q 5 || eqb q 7)

-- what the code has sets of: the listed q, and 9, of which source 000 prints the sets of sites 11 and 34
unfoldable pub q_computed : ℕ → Bool
q_computed q = q_listed q || eqb q 9

abbrev pub billiard_size : ℕ → ℕ
billiard_size q = (q * q - 1) / 2

-- "Assume mod returns 1, 2, .., q"
unfoldable pub mod_from_one : ℕ → ℕ → ℕ
mod_from_one a q = cond (eqb (a % q) 0) q (a % q)

-- "j := 2 * n mod q"
abbrev pub column_of : ℕ → ℕ → ℕ
column_of q n = mod_from_one (2 * n) q

-- "i := 1 + (2 * n - j)/q"
abbrev pub row_of : ℕ → ℕ → ℕ
row_of q n = 1 + (2 * n - column_of q n) / q

-- "if i + j < q + 1"; the other case is "if i + j > q + 1": the two are never equal, as i + j is odd and q + 1 even
abbrev pub above : ℕ → ℕ → ℕ → Bool
above q i j = ltb (i + j) (q + 1)

-- "x_1 := [(i + j - 2) * q + 1]/2", and "x_1 := N - [2 * q - i - j - 1]/2"
unfoldable pub first_site : ℕ → ℕ → ℕ → ℕ
first_site q i j = cond (above q i j) (((i + j - 2) * q + 1) / 2) (billiard_size q - (2 * q - i - j - 1) / 2)

-- "for k = 1 to j - 1 do x_{k+1} := x_k - (q - 1)/2"
-- "for k = j to q - i do x_{k+1} := x_k + (q + 1)/2"
-- "for k = q - i + 1 to q - 1 do x_{k+1} := x_k - (q - 1)/2"
unfoldable pub next_above : ℕ → ℕ → ℕ → ℕ → ℕ → ℕ
next_above q i j k x =
    cond (ltb k j) (x - (q - 1) / 2)
    (cond (leb k (q - i)) (x + (q + 1) / 2)
    (x - (q - 1) / 2))

-- "for k = 1 to q - i do x_{k+1} := x_k - (q - 1)/2"
-- "for k = q - i + 1 to j - 1 do x_{k+1} := x_k - (q + 1)/2"
-- "for k = j to q - 1 do x_{k+1} := x_k - (q - 1)/2"
unfoldable pub next_below : ℕ → ℕ → ℕ → ℕ → ℕ → ℕ
next_below q i j k x =
    cond (leb k (q - i)) (x - (q - 1) / 2)
    (cond (ltb k j) (x - (q + 1) / 2)
    (x - (q - 1) / 2))

-- x_{k+1} from k and x_k
unfoldable pub next_site : ℕ → ℕ → ℕ → ℕ → ℕ → ℕ
next_site q i j k x = cond (above q i j) (next_above q i j k x) (next_below q i j k x)

-- x_{k+1} for k from 0
unfoldable pub path_site : ℕ → ℕ → ℕ → ℕ → ℕ
path_site q i j zero = first_site q i j
path_site q i j (suc k) = next_site q i j (suc k) (path_site q i j k)

-- x_k of procedure generate(n)
unfoldable pub billiard_entry : ℕ → ℕ → ℕ → ℕ
billiard_entry q n k = path_site q (row_of q n) (column_of q n) (k - 1)

-- What the code's own steps need, and no part of document 01: that none of them goes below 0, from a site that is no larger than N is for
-- q = 9. `path_fits` and `Location` below are such needs too.
unfoldable pub step_fits : ℕ → ℕ → ℕ → ℕ → ℕ → Bool
step_fits q i j k x =
    leb x (billiard_size 9)
    && cond (above q i j)
    (cond (ltb k j) (leb ((q + 1) / 2) x)
    (cond (leb k (q - i)) true
    (leb ((q + 1) / 2) x)))
    (leb ((q + 1) / 2) x)

-- each step of the path from (i, j)
unfoldable pub path_fits : ℕ → ℕ → ℕ → Bool
path_fits q i j = all (λ k. step_fits q i j k (path_site q i j (pred k))) (q - 1)

-- a location (i, j) of the modified grid, and the path from there
pub record Location (q i j : ℕ) : Type 0 where
  pub q-least : 3 ≤ q
  pub q-most : q ≤ 9
  pub row-least : 1 ≤ i
  pub row-most : i ≤ q
  pub column-least : 1 ≤ j
  pub column-most : j ≤ q
  pub sum-most : i + j < 2 * q
  pub fits : path_fits q i j ≡ true
