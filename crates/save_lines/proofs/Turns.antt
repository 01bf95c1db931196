-- The turns of the loop: a line's numbers written one by one.
use Prim.Native.Nat.{ℕ, suc, ◌+◌, ◌≤◌, ◌<◌}
use mathlib.Core.List.{List, [], ◌∷◌, ◌++◌}
use mathlib.Core.Path.{◌≡◌, ap, ◌∙◌}
use native.Mathlib.Numerals.{add-one}
use native.Mathlib.Omega.{arith}
use lib.ListN.{length, take, drop, get_or, length-append, take-append-drop}
use lib.Seq.{take-suc}
use Rattle.player_bytes.specs.Wrote.{Wrote}
use Rattle.player_bytes.proofs.Stores.{wrote-more}
use Rattle.plan_lines.specs.Lines.{list_text}
use Rattle.plan_lines.proofs.Lines.{added, list-more}
use Rattle.save_lines.specs.Lines.{field, field_text}

-- the length of a line: the word, the numbers, the byte 10
pub line-length : (w ns : List ℕ) → length (field_text (field w ns)) ≡ length w + length (list_text ns) + 1
unfolding field_text
line-length w ns = simp length-append (omega arith)

-- a part of a list is no longer than the whole
list-longer : (ns ms : List ℕ) → length (list_text ns) ≤ length (list_text (ns ++ ms))
unfolding list_text
list-longer [] ms = omega arith
list-longer (n ∷ []) [] = omega arith
list-longer (n ∷ []) (m ∷ ms) = simp length-append (omega arith)
list-longer (n ∷ k ∷ ns) ms = let l = list-longer (k ∷ ns) ms in simp length-append (omega arith)

list-part : (ns : List ℕ) (i : ℕ) → length (list_text (take i ns)) ≤ length (list_text ns)
list-part ns i = rw (take-append-drop i ns) at (list-longer (take i ns) (drop i ns))

-- one number more
module _ (ns : List ℕ) (i next first : ℕ) (h : i < length ns) where
  list-turn : next ≡ first + length (list_text (take i ns)) → list_text (take (suc i) ns) ≡ list_text (take i ns) ++ added next first (get_or ns i 0)
  list-turn e = rw (take-suc ns i 0 h) (list-more (take i ns) next first (get_or ns i 0) e)

  -- there is room for it where there is room for all of them
  pub number_fits : next ≡ first + length (list_text (take i ns)) → next + length (added next first (get_or ns i 0)) ≤ first + length (list_text ns)
  number_fits e =
      omega (arith, list-part ns (suc i), ap length (list-turn e) ∙ length-append (list_text (take i ns)) (added next first (get_or ns i 0)))

  pub wrote-number :
      {r : ℕ} {page mid after : List ℕ}
      → Wrote (list_text (take i ns)) first page mid next
      → Wrote (added next first (get_or ns i 0)) next mid after r
      → Wrote (list_text (take (i + 1) ns)) first page after r
  wrote-number a b = rw (add-one, list-turn a.behind) (wrote-more a b)
