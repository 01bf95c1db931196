-- Closing a gap: the k rows behind place p stand one place forward.
use Prim.Native.Nat.{ℕ, suc, ◌+◌, ◌-◌, ◌≤◌, ◌<◌}
use mathlib.Core.Path.{◌≡◌, sym, ap, ◌∙◌}
use mathlib.Core.List.{List, ◌∷◌, ◌++◌}
use native.Mathlib.Omega.{arith}
use lib.ListN.{length, take, drop, set, length-drop}
use Rattle.std.proofs.lemmas.List.{drop-take}
use lib.Seq.{take-take, take-paste, drop-paste, drop-drop, set_split, length-paste, paste}

module _ {A : Type 0} where
  abbrev pub gap : List A → ℕ → ℕ → List A
  gap l p k = paste l p (drop (suc p) l) k

  gap-front : (l : List A) (p k : ℕ) → p + k < length l → take (p + k) (gap l p k) ≡ take p (take (suc p + k) l) ++ drop (suc p) (take (suc p + k) l)
  gap-front l p k h =
      take-paste l p (drop (suc p) l) k (omega arith) (simp length-drop (omega arith))
      ∙ sym (ap (λ (r : List A). r ++ drop (suc p) (take (suc p + k) l)) (take-take p (suc p + k) l (omega arith))
      ∙ ap (λ (r : List A). take p l ++ r) (drop-take (suc p) k l))

  gap_back : (l : List A) (p k : ℕ) → p + k < length l → drop (suc p + k) (gap l p k) ≡ drop (suc p + k) l
  gap_back l p k h =
      let e : suc p + k ≡ p + k + 1 = omega arith in
      ap (λ (n : ℕ). drop n (gap l p k)) e
      ∙ sym (drop-drop 1 (p + k) (gap l p k))
      ∙ ap (λ (r : List A). drop 1 r) (drop-paste l p (drop (suc p) l) k (omega arith) (simp length-drop (omega arith)))
      ∙ drop-drop 1 (p + k) l
      ∙ ap (λ (n : ℕ). drop n l) (sym e)

  -- the gap closed, and v in the place that is left
  pub gap-closed : (l : List A) (p k : ℕ) (v : A) → p + k < length l
      → set (gap l p k) (p + k) v ≡ (take p (take (suc p + k) l) ++ drop (suc p) (take (suc p + k) l)) ++ (v ∷ drop (suc p + k) l)
  gap-closed l p k v h =
      let n : length (gap l p k) ≡ length l = length-paste l p (drop (suc p) l) k (omega arith) (simp length-drop (omega arith)) in
      let e : suc (p + k) ≡ suc p + k = omega arith in
      set_split (gap l p k) (p + k) v (omega arith)
      ∙ ap (λ (r : List A). r ++ (v ∷ drop (suc (p + k)) (gap l p k))) (gap-front l p k h)
      ∙ ap (λ (r : List A). (take p (take (suc p + k) l) ++ drop (suc p) (take (suc p + k) l)) ++ (v ∷ r)) (ap (λ (i : ℕ). drop i (gap l p k)) e ∙ gap_back l p k h)

  -- the same, for the first n of the list
  gap_at : (l m : List A) (p n k : ℕ) (v : A) → n ≡ suc p + k → n - 1 ≡ p + k → n ≤ length l → m ≡ gap l p k
      → set m (n - 1) v ≡ (take p (take n l) ++ drop (suc p) (take n l)) ++ (v ∷ drop n l)
  gap_at l m p n k v e f h g =
      let i : p + k < length l = omega arith in
      rw (f, e, g) (gap-closed l p k v i)

  pub gap-taken : (l m : List A) (p n : ℕ) (v : A) → p < n → n ≤ length l → m ≡ gap l p (n - suc p)
      → set m (n - 1) v ≡ (take p (take n l) ++ drop (suc p) (take n l)) ++ (v ∷ drop n l)
  gap-taken l m p n v i h g = gap_at l m p n (n - suc p) v (omega arith) (omega arith) h g
