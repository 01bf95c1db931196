-- Words at the start of a line, as the library tests them.
use Prim.Native.Nat.{ℕ, ◌-◌}
use native.Mathlib.Omega.{arith}
use mathlib.Core.Bool.{Bool, ◌&&◌}
use mathlib.Core.List.{List, [], ◌∷◌}
use mathlib.Core.Path.{◌≡◌, refl, sym, ap, ◌∙◌}
use lib.Dec.{eqb}
use lib.Pointwise.{pointwise}
use lib.ListN.{length, take, drop}
use Rattle.std.proofs.lemmas.Slice.{between_to_end}
use Rattle.player_grammar.specs.Grammar.{starts}

starts-pointwise : (word line : List ℕ) → pointwise eqb (take (length word) line) word ≡ starts word line
unfolding starts
starts-pointwise [] line = refl
starts-pointwise (w ∷ ws) [] = refl
starts-pointwise (w ∷ ws) (b ∷ bs) = ap (λ t. eqb b w && t) (starts-pointwise ws bs)

pub starts-word : (word line : List ℕ) {t : Bool} → pointwise eqb (take (length word) line) word ≡ t → starts word line ≡ t
starts-word word line h = sym (starts-pointwise word line) ∙ h

-- `&line[i..]`
pub behind : (line : List ℕ) (i : ℕ) → take (length line - i) (drop i line) ≡ drop i line
behind line i = between_to_end line i (length line) (omega arith)
