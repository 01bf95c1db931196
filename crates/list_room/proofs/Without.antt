-- How many rows stay once one is taken off.
use Prim.Native.Nat.{ℕ, suc, ◌-◌, ◌≤◌, ◌<◌}
use mathlib.Core.Path.{◌≡◌, ap, ◌∙◌}
use mathlib.Core.List.{List, ◌++◌, append-nil}
use native.Mathlib.Omega.{arith}
use lib.ListN.{length, take, length-take, length-drop, length-append, drop_of_length-le}
use lib.Seq.{length-take-le, take_all}
use Rattle.list_rows.specs.Rows.{without}

-- one fewer
pub without-short : (n place : ℕ) (rows : List (List ℕ)) → place < n → n ≤ length rows → length (without place (take n rows)) ≡ n - 1
without-short n place rows g h = simp (length-append, length-take, length-drop) (omega arith)

-- none stands at a place behind the last
pub without-none : (n : ℕ) (rows : List (List ℕ)) → without n (take n rows) ≡ take n rows
without-none n rows =
    let l = length-take n rows in
    ap (λ (r : List (List ℕ)). take n (take n rows) ++ r) (drop_of_length-le (take n rows) {i = suc n} (omega arith))
    ∙ append-nil (take n (take n rows))
    ∙ take_all n (take n rows) (omega arith)

pub without_all : (n place : ℕ) (rows : List (List ℕ)) → place ≡ n → n ≤ length rows → length (without place (take n rows)) ≡ n
without_all n place rows e h = rw (e, without-none n rows) (length-take-le n rows h)
