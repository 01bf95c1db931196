-- What the definitions need of tables and lists. A table is a function of the site's number.
use Rattle.std.specs.Prelude.{ℕ, zero, suc, Bool, true, false, ◌&&◌, ◌||◌, cond, List, [], ◌∷◌, eqb}
use Rattle.std.proofs.Math.Option.{Option, none, some}

-- the table f, but v for site i
unfoldable pub update {ℓ} : {A : Type ℓ} → (ℕ → A) → ℕ → A → ℕ → A
update f i v k = cond (eqb k i) v (f k)

-- of the sites 1 to n: all pass, one passes, how many pass
unfoldable pub all : (ℕ → Bool) → ℕ → Bool
all p zero = true
all p (suc n) = all p n && p (suc n)

unfoldable pub any : (ℕ → Bool) → ℕ → Bool
any p zero = false
any p (suc n) = any p n || p (suc n)

unfoldable pub count : (ℕ → Bool) → ℕ → ℕ
count p zero = 0
count p (suc n) = cond (p (suc n)) (suc (count p n)) (count p n)

-- the lowest of 1 to n that passes, 0 none
unfoldable pub lowest : (ℕ → Bool) → ℕ → ℕ
lowest p zero = 0
lowest p (suc n) =
    let k = lowest p n in
    cond (eqb k 0) (cond (p (suc n)) (suc n) 0) k

module _ {A : Type 0} where
  -- how many entries of a list pass
  unfoldable pub tally : (A → Bool) → List A → ℕ
  tally p [] = 0
  tally p (x ∷ xs) = cond (p x) (suc (tally p xs)) (tally p xs)

  -- the first entry that passes, and the list without it
  unfoldable pub first : (A → Bool) → List A → Option A
  first p [] = none
  first p (x ∷ xs) = cond (p x) (some x) (first p xs)

  unfoldable pub without_first : (A → Bool) → List A → List A
  without_first p [] = []
  without_first p (x ∷ xs) = cond (p x) xs (x ∷ without_first p xs)

  -- every entry of a list has a property
  unfoldable pub All : (A → Type 0) → List A → Type 0
  All P [] = Unit {0}
  All P (x ∷ xs) = P x × All P xs
