-- The turns of the loop: a line's bytes read one by one.
use Prim.Native.Nat.{ℕ, ◌+◌, ◌≤◌, ◌<◌}
use mathlib.Core.Bool.{cond}
use mathlib.Core.List.{List}
use mathlib.Core.Logic.{◌≢◌}
use mathlib.Core.Path.{◌≡◌}
use native.Mathlib.Numerals.{add-one}
use borrow.Author.Tests.{eq-eqb, ne_eqb}
use lib.ListN.{length, drop, get_or, set, drop_of_length-le}
use lib.Seq.{drop-cons}
use Rattle.basics.proofs.Basics.{by_bool}
use Rattle.player_numbers.specs.Numbers.{is_digit}
use Rattle.save_lines.specs.Lines.{grown, numbers_from}

-- what is left of a line, from its byte j on: a comma, another byte, nothing
module _ (ns : List ℕ) (i : ℕ) (line : List ℕ) (j : ℕ) where
  pub comma-read : j < length line → get_or line j 0 ≡ 44 → numbers_from ns i (drop j line) ≡ numbers_from ns (i + 1) (drop (j + 1) line)
  unfolding numbers_from
  comma-read h e = rw (add-one i, add-one j, drop-cons line j 0 h, eq-eqb (get_or line j 0) 44 e)

  pub byte-read : j < length line → get_or line j 0 ≢ 44
      → numbers_from ns i (drop j line) ≡ numbers_from (cond (is_digit (get_or line j 0)) (set ns i (grown (get_or ns i 0) (get_or line j 0))) ns) i (drop (j + 1) line)
  unfolding numbers_from
  byte-read h e =
      rw (add-one, drop-cons line j 0 h, ne_eqb (get_or line j 0) 44 e)
      (by_bool (is_digit (get_or line j 0)) (λ d. rw d) (λ d. rw d))

  pub line_read : length line ≤ j → numbers_from ns i (drop j line) ≡ ns
  unfolding numbers_from
  line_read h = rw (drop_of_length-le line {i = j} h)
