-- What a search finds is the message that the model finds, and what is left without its row is what the model leaves.
use Prim.Native.Nat.{ℕ, suc, ◌+◌, ◌<◌}
use mathlib.Core.Path.{◌≡◌, refl, ap, ◌∙◌}
use mathlib.Core.Bool.{Bool}
use mathlib.Core.List.{List, [], ◌∷◌, map}
use mathlib.Core.Option.{none, some}
use native.Mathlib.Numerals.{add-one}
use native.Mathlib.Omega.{arith}
use lib.ListN.{length, get_or, take, length-take}
use lib.Seq.{get_or-take}
use Rattle.std.specs.Prelude.{Option}
use Rattle.std.specs.List.{position, position_from}
use Rattle.std.proofs.lemmas.Iterator.Adapters.{position_from-zero}
use Rattle.basics.specs.Helpers.{first, without_first}
use Rattle.basics.proofs.Basics.{by_bool}
use Rattle.model.specs.Deliver.{between}
use Rattle.list_rows.specs.Rows.{message_of, without}
use Rattle.list_search.specs.Places.{found_of, place_from, found_from, found_in}
use Rattle.list_search.specs.declared.Found.TheVariants.{At, Nowhere}

module _ (a b : ℕ) where
  -- nothing is found: the model finds nothing, and the other way round
  nowhere-none : (k : ℕ) (rows : List (List ℕ)) → found_from k a b rows ≡ Nowhere → first (between a b) (map message_of rows) ≡ none
  unfolding first
  nowhere-none k [] h = refl
  nowhere-none k (r ∷ rs) h =
      by_bool (between a b (message_of r))
      (λ e. let g : At k ≡ Nowhere = rw e at h in let z : ◌≡◌ {A = ℕ} 0 1 = cc in absurd (omega arith))
      (λ e. rw e (nowhere-none (suc k) rs (rw e at h)))

  none-nowhere : (k : ℕ) (rows : List (List ℕ)) → first (between a b) (map message_of rows) ≡ none → found_from k a b rows ≡ Nowhere
  unfolding first
  none-nowhere k [] h = refl
  none-nowhere k (r ∷ rs) h =
      by_bool (between a b (message_of r))
      (λ e. let g : some (message_of r) ≡ none = rw e at h in let z : ◌≡◌ {A = ℕ} 0 1 = cc in absurd (omega arith))
      (λ e. rw e (none-nowhere (suc k) rs (rw e at h)))

  pub found_nowhere : (rows : List (List ℕ))
      → (found_in a b rows ≡ Nowhere → first (between a b) (map message_of rows) ≡ none)
      × (first (between a b) (map message_of rows) ≡ none → found_in a b rows ≡ Nowhere)
  found_nowhere rows = (nowhere-none 0 rows, none-nowhere 0 rows)

  -- a place is found: it is the place of the model's message, and the list without that row is the model's
  abbrev Stands : List (List ℕ) → ℕ → Type 0
  Stands rows j =
      (j < length rows)
      × (first (between a b) (map message_of rows) ≡ some (message_of (get_or rows j [])))
      × (map message_of (without j rows) ≡ without_first (between a b) (map message_of rows))

  stands : (k : ℕ) (rows : List (List ℕ)) (i : ℕ) → found_from k a b rows ≡ At i → (j : ℕ) × (i ≡ k + j) × Stands rows j
  unfolding first without_first
  stands k [] i h = let z : ◌≡◌ {A = ℕ} 0 1 = cc in absurd (omega arith)
  stands k (r ∷ rs) i h =
      by_bool (between a b (message_of r))
      (λ e. let g : At k ≡ At i = rw e at h in let z : k ≡ i = cc in (0, omega arith, (omega arith, rw e, rw e)))
      (λ e. let s = stands (suc k) rs i (rw e at h) in
      (suc s.0, omega arith, (omega arith, rw e s.2.1, rw e (ap (λ ms. message_of r ∷ ms) s.2.2))))

  found-stands : (rows : List (List ℕ)) (i : ℕ) → found_in a b rows ≡ At i → Stands rows i
  found-stands rows i h =
      let s = stands 0 rows i h in
      let e : i ≡ s.0 = omega arith in
      rw e s.2

  -- of the first n rows
  pub found_at : (n : ℕ) (rows : List (List ℕ)) (i : ℕ) → found_in a b (take n rows) ≡ At i
      → (i < n) × (i < length rows) × (first (between a b) (map message_of (take n rows)) ≡ some (message_of (get_or rows i [])))
  found_at n rows i h =
      let s = found-stands (take n rows) i h in
      let l = length-take n rows in
      let g : i < n = omega arith in
      (g, omega arith, s.1 ∙ rw (get_or-take n rows i [] g))

  pub found-stays : (n : ℕ) (rows : List (List ℕ)) (i : ℕ) → found_in a b (take n rows) ≡ At i
      → map message_of (without i (take n rows)) ≡ without_first (between a b) (map message_of (take n rows))
  found-stays n rows i h = (found-stands (take n rows) i h).2

-- the place that `position` finds
module _ {A : Type 0} (test : A → Bool) where
  found-position : (k : ℕ) (xs : List A) → found_of (position_from test k xs) ≡ place_from k test xs
  found-position k [] = refl
  found-position k (x ∷ xs) =
      by_bool (test x)
      (λ e. rw e)
      (λ e. rw (e, add-one) (found-position (suc k) xs))

  pub found_first : (xs : List A) (place : Option ℕ) → place ≡ position test xs → found_of place ≡ place_from 0 test xs
  found_first xs place e = rw e (ap found_of (position_from-zero test xs) ∙ found-position 0 xs)
