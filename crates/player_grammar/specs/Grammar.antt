-- Document 01, "The player": what one line means. A line is its bytes before byte 10, of any number and any value.
use Rattle.std.specs.Prelude.{ℕ, ◌-◌, ◌^◌, Bool, true, false, ◌&&◌, cond, List, [], ◌∷◌, leb, ltb, eqb, length, drop, Option, Some, None}
use Rattle.std.specs.Int.Bits.{bit_or}
use Rattle.rig.specs.Limits.{site_limit}
use Rattle.player_numbers.specs.Numbers.{number}
use Rattle.player_grammar.specs.declared.Line.{Line}
use Rattle.player_grammar.specs.declared.Line.TheVariants.{Sites, Set, Ask, Leave, Move}

-- "A list is a number, or a number, a comma and a list": the parts that the commas (byte 44) separate, each a number.
-- `longer b` puts the byte b in front of the first part.
unfoldable pub longer : ℕ → List (List ℕ) → List (List ℕ)
longer b [] = []
longer b (p ∷ ps) = (b ∷ p) ∷ ps

unfoldable pub parts : List ℕ → List (List ℕ)
parts [] = [] ∷ []
parts (b ∷ bs) = cond (eqb b 44) ([] ∷ parts bs) (longer b (parts bs))

-- a number in front of those of a list; none where either is missing
unfoldable pub before : Option ℕ → Option (List ℕ) → Option (List ℕ)
before (Some n) (Some ns) = Some (n ∷ ns)
before (Some n) None = None
before None ns = None

unfoldable pub all_numbers : List (List ℕ) → Option (List ℕ)
all_numbers [] = Some []
all_numbers (p ∷ ps) = before (number p) (all_numbers ps)

-- the numbers that bytes list; none where they are no list
unfoldable pub numbers : List ℕ → Option (List ℕ)
numbers bs = all_numbers (parts bs)

-- "it ascends strictly"
unfoldable pub ascends : List ℕ → Bool
ascends [] = true
ascends (a ∷ []) = true
ascends (a ∷ b ∷ ns) = ltb a b && ascends (b ∷ ns)

-- The set as setup reads it: site n, from 1 to `site_limit`, is bit n - 1. Any other number is no site of any rig and stands as bit 63, which
-- setup turns down with 2, since N is at most `site_limit`.
unfoldable pub site_bit : ℕ → ℕ
site_bit n = cond (leb 1 n && leb n site_limit) (2 ^ (n - 1)) (2 ^ 63)

-- the set with the numbers of a list added
unfoldable pub with_sites : ℕ → List ℕ → ℕ
with_sites set [] = set
with_sites set (n ∷ ns) = with_sites (bit_or set (site_bit n)) ns

-- what the numbers say behind `set=`; behind a word that takes exactly one; behind `move=`, which takes exactly two
unfoldable pub set_line : Option (List ℕ) → Option Line
set_line None = None
set_line (Some ns) = cond (ascends ns) (Some (Set (with_sites 0 ns))) None

unfoldable pub one : (ℕ → Line) → Option (List ℕ) → Option Line
one line None = None
one line (Some []) = None
one line (Some (a ∷ [])) = Some (line a)
one line (Some (a ∷ b ∷ ns)) = None

unfoldable pub move_line : Option (List ℕ) → Option Line
move_line None = None
move_line (Some []) = None
move_line (Some (a ∷ [])) = None
move_line (Some (a ∷ b ∷ [])) = Some (Move a b)
move_line (Some (a ∷ b ∷ c ∷ ns)) = None

-- `sites=`, `set=`, `ask=`, `leave=`, `move=`
abbrev pub sites_word : List ℕ
sites_word = 115 ∷ 105 ∷ 116 ∷ 101 ∷ 115 ∷ 61 ∷ []

abbrev pub set_word : List ℕ
set_word = 115 ∷ 101 ∷ 116 ∷ 61 ∷ []

abbrev pub ask_word : List ℕ
ask_word = 97 ∷ 115 ∷ 107 ∷ 61 ∷ []

abbrev pub leave_word : List ℕ
leave_word = 108 ∷ 101 ∷ 97 ∷ 118 ∷ 101 ∷ 61 ∷ []

abbrev pub move_word : List ℕ
move_word = 109 ∷ 111 ∷ 118 ∷ 101 ∷ 61 ∷ []

-- whether a line starts with a word
unfoldable pub starts : List ℕ → List ℕ → Bool
starts [] line = true
starts (w ∷ ws) [] = false
starts (w ∷ ws) (b ∷ bs) = eqb b w && starts ws bs

-- "events `ask=s`, `leave=s`, `move=a,b`": one of the three words, and what is behind it
unfoldable pub event_form : List ℕ → Option Line
event_form line =
    cond (starts ask_word line) (one Ask (numbers (drop 4 line)))
    (cond (starts leave_word line) (one Leave (numbers (drop 6 line)))
    (cond (starts move_word line) (move_line (numbers (drop 5 line)))
    None))

-- "`sites=`, then N lines `set=`, then events"
unfoldable pub form : List ℕ → Option Line
form line =
    cond (starts sites_word line) (one Sites (numbers (drop 6 line)))
    (cond (starts set_word line) (set_line (numbers (drop 4 line)))
    (event_form line))

-- "at most 96 bytes before it"
abbrev pub line_limit : ℕ
line_limit = 96

unfoldable pub meaning_of : List ℕ → Option Line
meaning_of line = cond (leb (length line) line_limit) (form line) None
