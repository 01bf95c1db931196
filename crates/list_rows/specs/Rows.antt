-- A message as a row of five numbers: kind, from, to, about, number; and lists of rows.
use Rattle.std.specs.Prelude.{ℕ, suc, ◌+◌, ◌-◌, ◌≡◌, List, [], ◌∷◌, ◌++◌, map, length, take, drop, get_or, replicate}
use Rattle.rig.specs.declared.Message.{Message}
use Rattle.rig.specs.Limits.{message_limit}

abbrev pub row_of : Message → List ℕ
row_of m = m.kind ∷ m.from ∷ m.to ∷ m.about ∷ m.number ∷ []

abbrev pub message_of : List ℕ → Message
message_of r = record { kind = get_or r 0 0; from = get_or r 1 0; to = get_or r 2 0; about = get_or r 3 0; number = get_or r 4 0 }

abbrev pub zero_row : List ℕ
zero_row = 0 ∷ 0 ∷ 0 ∷ 0 ∷ 0 ∷ []

-- the rows of a list with nothing under way
abbrev pub zero_rows : List (List ℕ)
zero_rows = replicate message_limit zero_row

-- all rows are zeros from a place on
abbrev pub cleared : ℕ → List (List ℕ) → List (List ℕ)
cleared from rows = take from rows ++ replicate (length rows - from) zero_row

-- the rows past the first n are zeros
abbrev pub ZeroPast : ℕ → List (List ℕ) → Type 0
ZeroPast n rows = cleared n rows ≡ rows

-- a list without its row at a place; the same list where the place is behind its last row
abbrev pub without : ℕ → List (List ℕ) → List (List ℕ)
without place rows = take place rows ++ drop (suc place) rows

-- the messages ms stand behind the first n rows, which stay, r rows are now used, and the rows behind them are as they came
pub record Appends (ms : List Message) (n : ℕ) (rows after : List (List ℕ)) (r : ℕ) : Type 0 where
  pub count : r ≡ n + length ms
  pub sent : take r after ≡ take n rows ++ map row_of ms
  pub rest : drop r after ≡ drop r rows
