-- Bytes stored one by one.
use Prim.Native.Nat.{ℕ, suc, ◌+◌, ◌≤◌}
use mathlib.Core.List.{List, [], ◌∷◌, ◌++◌, append_assoc}
use mathlib.Core.Path.{◌≡◌, refl, ◌∙◌}
use native.Mathlib.Nat.{add-zero}
use native.Mathlib.Omega.{arith}
use lib.ListN.{length, set, length-append}
use lib.Seq.{sets, set_comm}
use borrow.Rule.Slice.PartMut.{put_mid}
use lib.Seq.{sets-eq, drop-drop}
use Rattle.player_bytes.specs.Wrote.{Wrote}

-- some, then more behind them
pub stores-more : (page : List ℕ) (at : ℕ) (xs ys : List ℕ) → sets (sets page at xs) (at + length xs) ys ≡ sets page at (xs ++ ys)
stores-more page at [] ys = rw add-zero
stores-more page at (x ∷ xs) ys = let e : at + suc (length xs) ≡ suc at + length xs = omega arith in rw e (stores-more (set page at x) (suc at) xs ys)

-- a word written to the part from place `at` on
pub part-stored : (page word : List ℕ) (at : ℕ) → at + length word ≤ length page → put_mid at (length word) page word ≡ sets page at word
part-stored page word at h = rw (sets-eq word page at h, drop-drop, append_assoc) refl

-- the last one first
pub last-first : (page : List ℕ) (at : ℕ) (xs : List ℕ) (y : ℕ) → sets (set page (at + length xs) y) at xs ≡ sets page at (xs ++ (y ∷ []))
last-first page at [] y = rw add-zero
last-first page at (x ∷ xs) y =
    let e : at + suc (length xs) ≡ suc at + length xs = omega arith in
    rw (e, set_comm page (suc at + length xs) at y x (λ h. omega arith)) (last-first (set page at x) (suc at) xs y)

module _ {xs ys page mid after : List ℕ} {at k r : ℕ} where
  pub wrote-more : Wrote xs at page mid k → Wrote ys k mid after r → Wrote (xs ++ ys) at page after r
  wrote-more a b = record {
    behind = b.behind ∙ simp length-append (omega arith);
    stored = b.stored ∙ rw (a.stored, a.behind) (stores-more page at xs ys);
  }
