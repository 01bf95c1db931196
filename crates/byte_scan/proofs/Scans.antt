-- Where a byte stands first, in the library's words.
use Rattle.std.specs.Option.{unwrap_or}
use Rattle.std.proofs.Common.{ℕ, ◌+◌, ◌≡◌, ◌∙◌, refl, arith, Bool, cond, true, false, not, List, length, position, eqb}
use Rattle.std.proofs.lemmas.List.Recursion.{is_position_or_len}
use Rattle.std.proofs.lemmas.List.Sums.{prefix_len-le-length}
use Rattle.byte_scan.specs.Bytes.{index_of, index_after}

after : (t : Bool) (k : ℕ) → index_after t k ≡ cond t 0 (1 + k)
unfolding index_after
after true k = refl
after false k = omega arith

pub index_of-position : (b : ℕ) (xs : List ℕ) → index_of b xs ≡ unwrap_or (position (λ x. eqb x b) xs) (length xs)
unfolding index_of
index_of-position b xs =
    is_position_or_len (index_of b) (λ x. eqb x b) refl (λ x ys. after (eqb x b) (index_of b ys)) xs
    ∙ grind (arith, prefix_len-le-length (λ x. not (eqb x b)) xs)
