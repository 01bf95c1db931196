-- How the definitions read and write a table: sites are numbered from 1, so site n has the entry at index n - 1.
use Rattle.std.specs.Prelude.{ℕ, zero, suc, List, [], get_or, set}

module _ {A : Type 0} where
  -- what site k has in the list l; d where k is 0 or past the end
  unfoldable pub at : A → List A → ℕ → A
  at d l zero = d
  at d l (suc i) = get_or l i d

  -- the list with v for site k
  unfoldable pub put : List A → ℕ → A → List A
  put l zero v = l
  put l (suc i) v = set l i v

-- row k, column j of a table of numbers
unfoldable pub cell : List (List ℕ) → ℕ → ℕ → ℕ
cell t k j = at 0 (at [] t k) j
