-- A list that is copied through a map into another, one element more.
use mathlib.Core.Path.{◌≡◌, sym, ap, subst, ◌∙◌}
use Prim.Native.Nat.{ℕ, suc, ◌+◌, ◌<◌}
use native.Mathlib.Nat.{zero-add}
use mathlib.Core.List.{List, map}
use lib.ListN.{length, get_or, set, length-map, get_or-map}
use lib.Seq.{paste, paste-suc}

module _ {A B : Type 0} (f : A → B) (d : List B) (s : List A) where
  -- the first n of the list, copied
  abbrev pub copied : ℕ → List B
  copied n = paste d 0 (map f s) n

  pub copied_next : (i : ℕ) (z : A) → i < length d → i < length s → set (copied i) i (f (get_or s i z)) ≡ copied (suc i)
  copied_next i z hd hs =
      ap (λ (k : ℕ). set (copied i) k (f (get_or s i z))) (sym (zero-add i))
      ∙ ap (λ (y : B). set (copied i) (0 + i) y) (sym (get_or-map f s i z))
      ∙ paste-suc d 0 (map f s) i (f z) (subst (λ (k : ℕ). k < length d) (sym (zero-add i)) hd) (subst (λ (k : ℕ). i < k) (sym (length-map s f)) hs)
