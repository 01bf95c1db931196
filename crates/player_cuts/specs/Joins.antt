-- The bytes of one line, joined from what was read of it before and the bytes that come.
use Rattle.std.specs.Prelude.{ℕ, ◌+◌, Bool, true, false, cond, List, [], ◌∷◌, ◌++◌, eqb, leb, length}
use Rattle.player_grammar.specs.Grammar.{line_limit}

-- The line as far as it is read, how many of the bytes that came belong to it, and whether it can be judged.
pub record Joins : Type 0 where
  pub line : List ℕ
  pub taken : ℕ
  pub whole : Bool

abbrev pub joins : List ℕ → ℕ → Bool → Joins
joins line n whole = record { line = line; taken = n; whole = whole }

-- Byte 10 ends the line, and so does a byte that makes it longer than `line_limit`: it is malformed, whatever follows. n bytes were taken before.
unfoldable pub joined : ℕ → List ℕ → List ℕ → Joins
joined n line [] = joins line n false
joined n line (b ∷ bs) =
    let longer = line ++ (b ∷ []) in
    cond (eqb b 10) (joins line (n + 1) true)
    (cond (leb (length longer) line_limit) (joined (n + 1) longer bs)
    (joins longer (n + 1) true))
