-- A test of each message of a list in rows, of which a loop passes one after another.
use Prim.Native.Nat.{ℕ, zero, suc, ◌<◌}
use mathlib.Core.Path.{◌≡◌, sym, ◌∙◌}
use mathlib.Core.Bool.{Bool, true, false, ◌&&◌}
use mathlib.Core.List.{List, [], ◌∷◌, map}
use native.Mathlib.Omega.{arith}
use lib.ListN.{length, take, get_or}
use Rattle.basics.proofs.Basics.{and_split, and_second}
use Rattle.rig.specs.declared.Message.{Message}
use Rattle.list_rows.specs.Rows.{message_of}

module _ (test : Message → Bool) (each : List Message → Bool) (none : each [] ≡ true) (more : (m : Message) (ms : List Message) → each (m ∷ ms) ≡ test m && each ms) where
  -- one more that passes
  pub each_more : (rows : List (List ℕ)) (i : ℕ) → i < length rows → each (map message_of (take i rows)) ≡ true → test (message_of (get_or rows i [])) ≡ true → each (map message_of (take (suc i) rows)) ≡ true
  each_more [] i h a e = absurd (omega arith)
  each_more (r ∷ rows) zero h a e = rw (more (message_of r) [], e) none
  each_more (r ∷ rows) (suc i) h a e =
      let p = and_split (test (message_of r)) (each (map message_of (take i rows))) (sym (more (message_of r) (map message_of (take i rows))) ∙ a) in
      rw (more (message_of r) (map message_of (take (suc i) rows)), p.0) (each_more rows i (omega arith) p.1 e)

  -- one that fails
  pub each-fails : (rows : List (List ℕ)) (n i : ℕ) → i < n → i < length rows → test (message_of (get_or rows i [])) ≡ false → each (map message_of (take n rows)) ≡ false
  each-fails [] n i l h e = absurd (omega arith)
  each-fails (r ∷ rows) zero i l h e = absurd (omega arith)
  each-fails (r ∷ rows) (suc n) zero l h e = rw (more (message_of r) (map message_of (take n rows)), e)
  each-fails (r ∷ rows) (suc n) (suc i) l h e =
      more (message_of r) (map message_of (take n rows))
      ∙ and_second (test (message_of r)) (each (map message_of (take n rows))) (each-fails rows n i (omega arith) (omega arith) e)
