-- Request 2.2: "Write a state as key=value lines". A line as a word and numbers, and the numbers of a line's bytes.
use Rattle.std.specs.Prelude.{ℕ, suc, ◌+◌, ◌-◌, ◌*◌, cond, List, [], ◌∷◌, ◌++◌, eqb, leb, get_or, set, replicate}
use Rattle.rig.specs.Limits.{site_limit, number_limit}
use Rattle.player_numbers.specs.Numbers.{is_digit}
use Rattle.plan_lines.specs.Lines.{list_text}

-- Writing

-- a field of the state: its key with the `=`, and its value, a list of numbers
pub record Field : Type 0 where
  pub word : List ℕ
  pub numbers : List ℕ

abbrev pub field : List ℕ → List ℕ → Field
field w ns = record { word = w; numbers = ns }

-- its line: "Lines key=value, each ended by byte 10"; numbers in decimal, with commas between them
unfoldable pub field_text : Field → List ℕ
field_text f = (f.word ++ list_text f.numbers) ++ (10 ∷ [])

unfoldable pub fields_text : List Field → List ℕ
fields_text [] = []
fields_text (f ∷ fs) = field_text f ++ fields_text fs

-- Reading

-- a byte in front of the first of several lines
unfoldable pub in_front : ℕ → List (List ℕ) → List (List ℕ)
in_front b [] = (b ∷ []) ∷ []
in_front b (l ∷ ls) = (b ∷ l) ∷ ls

-- the lines of a text, each without its byte 10
unfoldable pub lines_in : List ℕ → List (List ℕ)
lines_in [] = []
lines_in (b ∷ bs) = cond (eqb b 10) ([] ∷ lines_in bs) (in_front b (lines_in bs))

-- the number n with one digit behind it; what is past the limit is no number of a state, and stays as it is
unfoldable pub grown : ℕ → ℕ → ℕ
grown n b = cond (leb n number_limit) (n * 10 + (b - 48)) n

-- The numbers of a line, behind the first i of them: a comma (byte 44) begins the next one, a digit is put behind the present one, any other byte is
-- passed over.
unfoldable pub numbers_from : List ℕ → ℕ → List ℕ → List ℕ
numbers_from ns i [] = ns
numbers_from ns i (b ∷ bs) =
    cond (eqb b 44) (numbers_from ns (suc i) bs)
    (cond (is_digit b) (numbers_from (set ns i (grown (get_or ns i 0) b)) i bs)
    (numbers_from ns i bs))

-- a line has a number for each site at most; 0 stands for those that it lacks
unfoldable pub numbers_in : List ℕ → List ℕ
numbers_in line = numbers_from (replicate site_limit 0) 0 line
