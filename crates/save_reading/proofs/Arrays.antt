-- Arrays that are filled site by site, over blanks.
use Prim.Native.Nat.{ℕ, suc, ◌-◌, ◌≤◌, ◌<◌}
use mathlib.Core.List.{List, ◌++◌, append_assoc, append-nil}
use mathlib.Core.Path.{◌≡◌, ◌∙◌}
use native.Mathlib.Omega.{arith}
use lib.ListN.{take, drop, set, replicate}
use lib.Seq.{set_at}
use Rattle.std.proofs.lemmas.List.{take-replicate, drop-replicate}
use Rattle.rig.specs.Limits.{site_limit}
use Rattle.save_text.specs.Reading.{up_to, array_of}
use Rattle.save_text.proofs.Arrays.{upto-length}

module _ {A : Type 0} (blank : A) (f : ℕ → A) where
  -- the first n places, once the sites 1 to i have theirs
  abbrev pub part_of : ℕ → ℕ → List A
  part_of n i = up_to f i ++ replicate (n - i) blank

  pub part_none : (n : ℕ) → n ≤ site_limit → take n (replicate site_limit blank) ≡ part_of n 0
  unfolding up_to
  part_none n h =
      let e : n - 0 ≡ n = omega arith in
      rw e (take-replicate n site_limit blank h)

  -- what site i + 1 has, in the place of a blank
  pub part-more : (n i : ℕ) → i < n → set (part_of n i) i (f (suc i)) ≡ part_of n (suc i)
  unfolding up_to
  part-more n i h =
      let e : n - i ≡ suc (n - suc i) = omega arith in
      rw e (set_at (up_to f i) blank (replicate (n - suc i) blank) (f (suc i)) i (upto-length f i) ∙ rw append_assoc)

  -- all n of them, and the blanks behind
  pub part-whole : (n : ℕ) → part_of n n ++ drop n (replicate site_limit blank) ≡ array_of blank f n
  unfolding array_of
  part-whole n =
      let e : n - n ≡ 0 = omega arith in
      rw (e, append-nil, drop-replicate)

  pub array-more : (i : ℕ) → i < site_limit → set (array_of blank f i) i (f (suc i)) ≡ array_of blank f (suc i)
  unfolding array_of
  array-more i h = part-more site_limit i h
