-- What follows from demand 3 alone.
use Prim.Native.Nat.{ℕ}
use mathlib.Core.Path.{◌≡◌, refl}
use mathlib.Core.Bool.{Bool, true}
use borrow.Author.Tests.{eq-eqb, le-leb}
use Rattle.basics.specs.Helpers.{any}
use Rattle.basics.proofs.Basics.{by_bool, clash, and-true, any_at, any_of, count-any, count-unique}
use Rattle.model.specs.State.{Stored, size_of, in_range, mode_of, is_inside, is_waiting}
use Rattle.model.specs.Run.{places, inside_count, waiting_count, stuck, Sound, Demand3}
use Rattle.model.specs.Corollaries.{SoundOneByOne, Corollaries}
use Rattle.model.proofs.Shaped.{within}
use Rattle.model.proofs.Theorem.{demand3}

module _ (s : Stored) (h : Sound s) where
  abbrev size : ℕ
  size = size_of s.tables

  abbrev inside : ℕ → Bool
  inside k = is_inside (mode_of s.tables k)

  abbrev waiting : ℕ → Bool
  waiting k = is_waiting (mode_of s.tables k)

  one_inside : (k l : ℕ) → in_range size k ≡ true → in_range size l ≡ true → inside k ≡ true → inside l ≡ true → k ≡ l
  unfolding inside_count
  one_inside k l a b e f =
      let (p, q) = within size k a in
      let (u, v) = within size l b in
      count-unique inside size k l h.exclusion p q e u v f

  each-place : (j : ℕ) → in_range size j ≡ true → places s j ≡ 1
  each-place j a = let (p, q) = within size j a in h.one_place j p q

  some-inside : s.count ≡ 0 → (k : ℕ) → in_range size k ≡ true → waiting k ≡ true → (l : ℕ) × (in_range size l ≡ true) × (inside l ≡ true)
  unfolding stuck inside_count waiting_count
  some-inside c k a e =
      by_bool (any inside size)
      (λ t. let (l, u, v, w) = any_at inside size t in (l, and-true _ _ (le-leb 1 l u) (le-leb l size v), w))
      (λ t. let (p, q) = within size k a in
      let z = rw (eq-eqb s.count 0 c, count-any inside size, t, count-any waiting size, any_of waiting size k p q e) at h.not_stuck in
      clash true refl z)

  one_by_one : SoundOneByOne s
  one_by_one = record { one_inside = one_inside; each_place = each-place; some_inside = some-inside }

pub corollaries : Corollaries
unfolding Corollaries Demand3
corollaries n sets list es e = one_by_one _ (demand3 n sets list es e)
