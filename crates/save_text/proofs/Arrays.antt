-- Arrays that are made site by site.
use Prim.Native.Nat.{ℕ, zero, suc, ◌+◌, ◌-◌, ◌≤◌, ◌<◌}
use mathlib.Core.List.{List, [], ◌++◌}
use mathlib.Core.Path.{◌≡◌, refl, sym, ap, ◌∙◌}
use native.Mathlib.Omega.{arith}
use lib.Dec.{eqb, ltb}
use lib.ListN.{length, get_or, replicate, length-append, length-replicate, get_or-replicate, get_or-append}
use lib.Seq.{ext_get_or, get_or-append-add, get_or-append_seam}
use borrow.Author.Tests.{eqb-true, eqb-false, ltb-true, ltb-false}
use Rattle.basics.proofs.Basics.{by_bool}
use Rattle.rig.specs.Limits.{site_limit}
use Rattle.model.specs.Tables.{at}
use Rattle.save_text.specs.Reading.{up_to, array_of}

module _ {A : Type 0} where
  pub upto-length : (f : ℕ → A) (n : ℕ) → length (up_to f n) ≡ n
  unfolding up_to
  upto-length f zero = refl
  upto-length f (suc n) = let l = upto-length f n in simp length-append (omega arith)

  upto-at : (f : ℕ → A) (n i : ℕ) (d : A) → i < n → get_or (up_to f n) i d ≡ f (suc i)
  unfolding up_to
  upto-at f zero i d h = absurd (omega arith)
  upto-at f (suc n) i d h =
      by_bool (eqb i n)
      (λ e. let e' = eqb-true i n e in
      let s = get_or-append_seam (up_to f n) (f (suc n)) [] d in
      rw e' (rw (upto-length f n) at s))
      (λ e. let l : i < n = omega (arith, eqb-false i n e) in
      get_or-append (up_to f n) _ d i (rw (upto-length f n) l) ∙ upto-at f n i d l)

  -- an array is known by what the sites 1 to n have, and by what is past n
  pub array_same :
      (blank d : A) (f : ℕ → A) (n : ℕ) (l : List A)
      → length l ≡ site_limit → n ≤ site_limit
      → ((k : ℕ) → 1 ≤ k → k ≤ n → f k ≡ at d l k)
      → ((k : ℕ) → n < k → k ≤ site_limit → at d l k ≡ blank)
      → array_of blank f n ≡ l
  unfolding array_of at
  array_same blank d f n l long few here past =
      ext_get_or d (up_to f n ++ replicate (site_limit - n) blank) l
      (length-append (up_to f n) (replicate (site_limit - n) blank) ∙ rw (upto-length f n, length-replicate (site_limit - n) blank, long) (omega arith))
      (λ i h. by_bool (ltb i n)
      (λ e. let b = ltb-true i n e in
      get_or-append (up_to f n) _ d i (rw (upto-length f n) b) ∙ (upto-at f n i d b ∙ here (suc i) (omega arith) (omega arith)))
      (λ e. let b = ltb-false i n e in
      let g : i < site_limit = omega (arith, h, length-append (up_to f n) (replicate (site_limit - n) blank), upto-length f n, length-replicate (site_limit - n) blank) in
      let j : i ≡ length (up_to f n) + (i - n) = rw (upto-length f n) (omega arith) in
      (ap (λ x. get_or (up_to f n ++ replicate (site_limit - n) blank) x d) j
      ∙ (get_or-append-add (up_to f n) (replicate (site_limit - n) blank) (i - n) d ∙ get_or-replicate (site_limit - n) (i - n) blank d (omega arith)))
      ∙ sym (past (suc i) (omega arith) (omega arith))))
