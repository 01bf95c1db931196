-- Document 01, "The player": the lines that it prints, as bytes.
use Rattle.std.specs.Prelude.{ℕ, List, [], ◌∷◌, ◌++◌, ◌≡◌, length, take, drop}
use Rattle.player_bytes.specs.Decimal.{decimal}

-- `step=`, ` code=`, ` inside=`, ` waiting=`, ` flying=`
abbrev pub step_word : List ℕ
step_word = 115 ∷ 116 ∷ 101 ∷ 112 ∷ 61 ∷ []

abbrev pub code_word : List ℕ
code_word = 32 ∷ 99 ∷ 111 ∷ 100 ∷ 101 ∷ 61 ∷ []

abbrev pub inside_word : List ℕ
inside_word = 32 ∷ 105 ∷ 110 ∷ 115 ∷ 105 ∷ 100 ∷ 101 ∷ 61 ∷ []

abbrev pub waiting_word : List ℕ
waiting_word = 32 ∷ 119 ∷ 97 ∷ 105 ∷ 116 ∷ 105 ∷ 110 ∷ 103 ∷ 61 ∷ []

abbrev pub flying_word : List ℕ
flying_word = 32 ∷ 102 ∷ 108 ∷ 121 ∷ 105 ∷ 110 ∷ 103 ∷ 61 ∷ []

-- `stop=`, ` line=`
abbrev pub stop_word : List ℕ
stop_word = 115 ∷ 116 ∷ 111 ∷ 112 ∷ 61 ∷ []

abbrev pub line_word : List ℕ
line_word = 32 ∷ 108 ∷ 105 ∷ 110 ∷ 101 ∷ 61 ∷ []

-- "Each event prints its place from 1, its code (0 accepted), the site inside (0 none), the count waiting and the count under way."
unfoldable pub step_line : ℕ → ℕ → ℕ → ℕ → ℕ → List ℕ
step_line step code inside waiting flying =
    (step_word ++ decimal step)
    ++ ((code_word ++ decimal code)
    ++ ((inside_word ++ decimal inside)
    ++ ((waiting_word ++ decimal waiting)
    ++ ((flying_word ++ decimal flying)
    ++ (10 ∷ [])))))

-- "Codes 1, 2, 3 and 11 print `stop=CODE line=L`"
unfoldable pub stop_line : ℕ → ℕ → List ℕ
stop_line code line = (stop_word ++ decimal code) ++ ((line_word ++ decimal line) ++ (10 ∷ []))

-- the bytes of a page
abbrev pub page_length : ℕ
page_length = 160

-- the line stands at the start of the page, r bytes long, and the bytes behind it are as they came
pub record Printed (line page after : List ℕ) (r : ℕ) : Type 0 where
  pub count : r ≡ length line
  pub text : take r after ≡ line
  pub rest : drop r after ≡ drop r page
  pub long : length after ≡ length page
