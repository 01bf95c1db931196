-- The line that starts at a place of a text, and the place behind it.
use Rattle.std.specs.Prelude.{ℕ, ◌-◌, List, length, take, drop}
use Rattle.save_lines.specs.Lines.{numbers_in}
use Rattle.save_numbers.specs.Places.{line_end, next_line}

-- the line that starts at place `at`, its numbers, and the place where the next line starts
unfoldable pub line_here : List ℕ → ℕ → List ℕ
line_here text at = take (line_end text at - at) (drop at text)

abbrev pub numbers_here : List ℕ → ℕ → List ℕ
numbers_here text at = numbers_in (line_here text at)

abbrev pub place_behind : List ℕ → ℕ → ℕ
place_behind text at = next_line (line_end text at) (length text)
