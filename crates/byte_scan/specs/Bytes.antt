-- Where a byte stands first in a list, and a part of a list.
use Rattle.std.specs.Prelude.{ℕ, zero, suc, Bool, true, false, List, [], ◌∷◌, take, drop, eqb}

-- the place one further, where what is tested does not stand here
unfoldable pub index_after : Bool → ℕ → ℕ
index_after true k = 0
index_after false k = suc k

-- the place of the first b, or the length where there is none
unfoldable pub index_of : ℕ → List ℕ → ℕ
index_of b [] = 0
index_of b (x ∷ xs) = index_after (eqb x b) (index_of b xs)

-- the bytes from place `from` on, before place `to`
unfoldable pub slice : ℕ → ℕ → List ℕ → List ℕ
slice from to xs = drop from (take to xs)
