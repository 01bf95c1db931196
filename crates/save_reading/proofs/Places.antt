-- The lines of a text, by the places where they start.
use Prim.Native.Nat.{ℕ, zero, suc, ◌+◌, ◌≤◌}
use mathlib.Core.List.{List, []}
use mathlib.Core.Path.{◌≡◌, refl, ap, ◌∙◌}
use native.Mathlib.Omega.{arith}
use lib.ListN.{length, drop}
use lib.Seq.{drop-drop, get_or-drop}
use Rattle.save_lines.specs.Lines.{lines_in, numbers_in}
use Rattle.save_numbers.proofs.Places.{line-here, line-rest}
use Rattle.save_text.specs.Reading.{line_at, numbers_at}
use Rattle.save_taking.specs.Places.{line_here, numbers_here}
use Rattle.save_taking.proofs.Places.{behind-within}
use Rattle.save_reading.specs.Places.{line_start}

pub start-within : (text : List ℕ) (i : ℕ) → line_start text i ≤ length text
unfolding line_start
start-within text zero = omega arith
start-within text (suc i) = behind-within text (line_start text i)

-- what stands from the start of line i on is all lines but the first i
pub lines_left : (text : List ℕ) (i : ℕ) → lines_in (drop (line_start text i) text) ≡ drop i (lines_in text)
unfolding line_start
lines_left text zero = refl
lines_left text (suc i) =
    let e : i + 1 ≡ suc i = omega arith in
    line-rest text (line_start text i) (start-within text i) ∙ rw (lines_left text i, drop-drop 1 i (lines_in text), e)

pub line-at : (text : List ℕ) (i : ℕ) → line_here text (line_start text i) ≡ line_at (lines_in text) i
unfolding line_here
line-at text i =
    let e : i + 0 ≡ i = omega arith in
    rw (← line-here text (line_start text i) (start-within text i), lines_left text i, get_or-drop i (lines_in text) 0 [], e)

pub numbers-at : (text : List ℕ) (i : ℕ) → numbers_here text (line_start text i) ≡ numbers_at (lines_in text) i
unfolding numbers_at
numbers-at text i = ap numbers_in (line-at text i)
