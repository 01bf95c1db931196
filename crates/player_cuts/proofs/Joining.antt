-- One byte more of a line: the text from place i on, behind the line so far.
use Prim.Native.Nat.{ℕ, ◌+◌, ◌≤◌, ◌<◌}
use mathlib.Core.Bool.{true, false}
use mathlib.Core.List.{List, [], ◌∷◌, ◌++◌}
use mathlib.Core.Path.{◌≡◌}
use borrow.Author.Tests.{eq-eqb, ne_eqb, le-leb, lt-leb}
use native.Mathlib.Numerals.{add-one}
use lib.ListN.{length, get_or, drop, length-append, drop_of_length-le}
use lib.Seq.{drop-cons}
use Rattle.player_grammar.specs.Grammar.{line_limit}
use Rattle.player_cuts.specs.Joins.{joins, joined}

module _ (text line : List ℕ) (i : ℕ) where
  pub line-ends : i < length text → get_or text i 0 ≡ 10 → joined i line (drop i text) ≡ joins line (i + 1) true
  unfolding joined
  line-ends h e = rw (drop-cons text i 0 h, eq-eqb (get_or text i 0) 10 e)

  pub line-grows : i < length text → (get_or text i 0 ≡ 10 → ⊥) → length line + 1 ≤ line_limit
      → joined i line (drop i text) ≡ joined (i + 1) (line ++ (get_or text i 0 ∷ [])) (drop (i + 1) text)
  unfolding joined
  line-grows h e g =
      let l : length (line ++ (get_or text i 0 ∷ [])) ≤ line_limit = simp length-append g in
      rw (drop-cons text i 0 h, ne_eqb (get_or text i 0) 10 e, le-leb (length (line ++ (get_or text i 0 ∷ []))) line_limit l, add-one)

  pub line-too-long : i < length text → (get_or text i 0 ≡ 10 → ⊥) → line_limit < length line + 1
      → joined i line (drop i text) ≡ joins (line ++ (get_or text i 0 ∷ [])) (i + 1) true
  unfolding joined
  line-too-long h e g =
      let l : line_limit < length (line ++ (get_or text i 0 ∷ [])) = simp length-append g in
      rw (drop-cons text i 0 h, ne_eqb (get_or text i 0) 10 e, lt-leb (length (line ++ (get_or text i 0 ∷ []))) line_limit l)

  pub line-goes-on : length text ≤ i → joined i line (drop i text) ≡ joins line i false
  unfolding joined
  line-goes-on h = rw (drop_of_length-le text {i = i} h)
