-- Where the lines of a text start.
use Rattle.std.specs.Prelude.{ℕ, zero, suc, List}
use Rattle.save_taking.specs.Places.{place_behind}

-- the place where line i starts, from 0; the end of the text where there is no such line
unfoldable pub line_start : List ℕ → ℕ → ℕ
line_start text zero = 0
line_start text (suc i) = place_behind text (line_start text i)
