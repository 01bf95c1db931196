-- Request sets as numbers.
use Rattle.std.specs.Prelude.{ℕ, zero, suc, ◌+◌, ◌/◌, ◌%◌, ◌^◌, Bool, false, not, ◌&&◌, ◌||◌, cond, eqb, ltb}
use Rattle.basics.specs.Helpers.{all, any}

-- "A set is an unsigned 64-bit entry: its bit n − 1, the lowest being bit 0, stands for site n."
unfoldable pub member : ℕ → ℕ → Bool
member s zero = false
member s (suc i) = eqb (s / 2 ^ i % 2) 1

-- the set of those of the sites 1 to n that pass
unfoldable pub set_of : (ℕ → Bool) → ℕ → ℕ
set_of p zero = 0
set_of p (suc i) = set_of p i + cond (p (suc i)) (2 ^ i) 0

-- two sets of sites 1 to n share a site
unfoldable pub meet : ℕ → ℕ → ℕ → Bool
meet n a b = any (λ m. member a m && member b m) n

-- not empty, and no site outside 1 to n
unfoldable pub names : ℕ → ℕ → Bool
names n s = not (eqb s 0) && ltb s (2 ^ n)

-- of the sites 1 to n, every one that is in b is in a
unfoldable pub contains : ℕ → ℕ → ℕ → Bool
contains n a b = all (λ m. not (member b m) || member a m) n

-- and a has another besides
unfoldable pub strictly_contains : ℕ → ℕ → ℕ → Bool
strictly_contains n a b = contains n a b && not (contains n b a)

-- one of two sets strictly contains the other
unfoldable pub nested : ℕ → ℕ → ℕ → Bool
nested n a b = strictly_contains n a b || strictly_contains n b a
