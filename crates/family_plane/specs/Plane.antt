-- Document 01, "Request set families": "Plane (002): p of 2, 3 or 5, N = p(p + 1) + 1; site n takes row n of the matrices M1, M2 and so on, laid
-- one under the other." The matrices are those of source 002, section 3.
use Rattle.std.specs.Prelude.{ℕ, ◌+◌, ◌-◌, ◌*◌, ◌/◌, ◌%◌, Bool, ◌||◌, cond, eqb, leb}

-- "p of 2, 3 or 5"
abbrev pub p_listed : ℕ → Bool
p_listed p = eqb p 2 || (eqb p 3 || eqb p 5)

abbrev pub plane_size : ℕ → ℕ
plane_size p = p * (p + 1) + 1

-- a row of a matrix has p + 1 entries
abbrev pub plane_width : ℕ → ℕ
plane_width p = p + 1

-- "m^1_{i,j} = 1 if j = 1, (i - 1)p + j if otherwise"
unfoldable pub first_matrix : ℕ → ℕ → ℕ → ℕ
first_matrix p i j = cond (eqb j 1) 1 ((i - 1) * p + j)

-- "g^x_{i,j} = [(x - 2)(j - 1) + (i - 1)] mod p"
abbrev pub generating_matrix : ℕ → ℕ → ℕ → ℕ → ℕ
generating_matrix p x i j = ((x - 2) * (j - 1) + (i - 1)) % p

-- "m^x_{i,j} = x if j = 1, m^1_{j,2} + g^x_{i,j-1} if otherwise", for x from 2
unfoldable pub other_matrix : ℕ → ℕ → ℕ → ℕ → ℕ
other_matrix p x i j = cond (eqb j 1) x (first_matrix p j 2 + generating_matrix p x i (j - 1))

-- "row n of the matrices M1, M2 and so on, laid one under the other": M1 has p + 1 rows, each other p
unfoldable pub plane_entry : ℕ → ℕ → ℕ → ℕ
plane_entry p n k =
    cond (leb n (p + 1)) (first_matrix p n k)
    (other_matrix p (2 + (n - p - 2) / p) (1 + (n - p - 2) % p) k)
