-- A row of a table in which every entry passes a test, and a table in which every row does.
use Prim.Native.Nat.{ℕ, zero, suc, ◌<◌}
use mathlib.Core.Path.{◌≡◌, refl, sym, ◌∙◌}
use mathlib.Core.Bool.{Bool, true}
use mathlib.Core.List.{List, []}
use native.Mathlib.Omega.{arith}
use lib.Dec.{eqb, leb}
use lib.ListN.{length}
use borrow.Author.Tests.{eqb-true, eqb-false, leb-true, leb-false}
use Rattle.basics.specs.Helpers.{all}
use Rattle.basics.proofs.Basics.{by_bool, all-at, all_of}
use Rattle.rig.specs.Limits.{site_limit, blank_row, SiteNumber}
use Rattle.model.specs.Tables.{at, put, cell}
use Rattle.model.specs.Shape.{everywhere}
use Rattle.model.proofs.Tables.{at-put-same, at-put-other, at-past, at_same, length-put}

module _ {A : Type 0} where
  -- a store at no place of a list changes nothing that is read
  put-none : (l : List A) (k : ℕ) (v : A) → k < 1 → put l k v ≡ l
  unfolding put
  put-none l zero v h = refl
  put-none l (suc j) v h = absurd (omega arith)

  at-put-past : (d : A) (l : List A) (k : ℕ) (v : A) → length l < k → at d (put l k v) k ≡ at d l k
  at-put-past d l k v h = at-past d (put l k v) k (rw (length-put l k v) h) ∙ sym (at-past d l k h)

  -- what holds of an entry and of the value that is stored holds of the entry after the store
  pub at-put-keeps : (P : A → Type 0) (d : A) (l : List A) (k : ℕ) (v : A) (i : ℕ) → P (at d l i) → (i ≡ k → P v) → P (at d (put l k v) i)
  at-put-keeps P d l k v i old new =
      by_bool (eqb i k)
      (λ e. let q = eqb-true i k e in
      by_bool (leb 1 k)
      (λ low. by_bool (leb k (length l))
      (λ h. rw q (rw (at-put-same d l k v (leb-true 1 k low) (leb-true k (length l) h)) (new q)))
      (λ h. rw q (rw (at-put-past d l k v (leb-false k (length l) h)) (rw q at old))))
      (λ low. rw (put-none l k v (leb-false 1 k low)) old))
      (λ e. rw (at-put-other d l k v i (eqb-false i k e)) old)

-- every entry of a row passes
abbrev pub Row : (ℕ → ℕ → Bool) → List ℕ → Type 0
Row p l = (j : ℕ) → SiteNumber j → p j (at 0 l j) ≡ true

pub row_put : (p : ℕ → ℕ → Bool) (l : List ℕ) (k v : ℕ) → Row p l → p k v ≡ true → Row p (put l k v)
row_put p l k v h new j r = at-put-keeps (λ x. p j x ≡ true) 0 l k v j (h j r) (λ e. rw e new)

pub row-blank : (p : ℕ → ℕ → Bool) → ((j : ℕ) → p j 0 ≡ true) → Row p blank_row
row-blank p h j r = rw (at_same {A = ℕ} 0 site_limit j) (h j)

-- the rows of a table in which every entry passes
pub row_of : (p : ℕ → ℕ → ℕ → Bool) (table : List (List ℕ)) → everywhere p table ≡ true → (k : ℕ) → SiteNumber k → Row (p k) (at [] table k)
unfolding everywhere cell
row_of p table h k r j q =
    all-at (λ b. p k b (cell table k b)) site_limit j (all-at (λ a. all (λ b. p a b (cell table a b)) site_limit) site_limit k h r.low r.high) q.low q.high

of-rows : (p : ℕ → ℕ → ℕ → Bool) (table : List (List ℕ)) → ((k : ℕ) → SiteNumber k → Row (p k) (at [] table k)) → everywhere p table ≡ true
unfolding everywhere cell
of-rows p table h = all_of _ site_limit (λ k a b. all_of _ site_limit (λ j c d. h k (record { low = a; high = b }) j (record { low = c; high = d })))

-- another row
pub everywhere-put : (p : ℕ → ℕ → ℕ → Bool) (table : List (List ℕ)) (k : ℕ) (row : List ℕ) → everywhere p table ≡ true → Row (p k) row → everywhere p (put table k row) ≡ true
everywhere-put p table k row h new = of-rows p (put table k row) (λ i r. at-put-keeps (λ x. Row (p i) x) [] table k row i (row_of p table h i r) (λ e. rw e new))
