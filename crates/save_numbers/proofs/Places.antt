-- The lines of a text from a place on: the line that starts there, and those behind it.
use Prim.Native.Nat.{ℕ, suc, ◌+◌, ◌-◌, ◌≤◌, ◌<◌}
use mathlib.Core.List.{List, [], ◌∷◌}
use mathlib.Core.Path.{◌≡◌, refl}
use native.Mathlib.Omega.{arith}
use borrow.Author.Tests.{ltb-false}
use lib.Dec.{eqb, ltb}
use lib.ListN.{length, take, drop, get_or, length-drop, drop_of_length-le}
use lib.Seq.{drop-drop, drop-length}
use Rattle.basics.proofs.Basics.{by_bool}
use Rattle.byte_scan.specs.Bytes.{index_after, index_of}
use Rattle.save_lines.specs.Lines.{in_front, lines_in}
use Rattle.save_numbers.specs.Places.{line_end, next_line}

-- a byte in front of several lines: the first line, and the others
front-first : (b : ℕ) (ls : List (List ℕ)) → get_or (in_front b ls) 0 [] ≡ b ∷ get_or ls 0 []
unfolding in_front
front-first b [] = refl
front-first b (l ∷ ls) = refl

front-others : (b : ℕ) (ls : List (List ℕ)) → drop 1 (in_front b ls) ≡ drop 1 ls
unfolding in_front
front-others b [] = refl
front-others b (l ∷ ls) = refl

front-some : (b : ℕ) (ls : List (List ℕ)) → 1 ≤ length (in_front b ls)
unfolding in_front
front-some b [] = omega arith
front-some b (l ∷ ls) = omega arith

front-few : (b : ℕ) (ls : List (List ℕ)) → length (in_front b ls) ≤ suc (length ls)
unfolding in_front
front-few b [] = omega arith
front-few b (l ∷ ls) = omega arith

-- the first line of a text is what stands before its first byte 10, and the others are those of what stands behind it
first-line : (t : List ℕ) → get_or (lines_in t) 0 [] ≡ take (index_of 10 t) t
unfolding lines_in index_of index_after
first-line [] = refl
first-line (b ∷ bs) =
    by_bool (eqb b 10)
    (λ e. rw e)
    (λ e. rw (e, front-first b (lines_in bs), first-line bs))

other-lines : (t : List ℕ) → lines_in (drop (suc (index_of 10 t)) t) ≡ drop 1 (lines_in t)
unfolding lines_in index_of index_after
other-lines [] = refl
other-lines (b ∷ bs) =
    by_bool (eqb b 10)
    (λ e. rw e)
    (λ e. rw (e, front-others b (lines_in bs)) (other-lines bs))

some-line : (b : ℕ) (bs : List ℕ) → 1 ≤ length (lines_in (b ∷ bs))
unfolding lines_in
some-line b bs = by_bool (eqb b 10) (λ e. rw e (omega arith)) (λ e. rw e (front-some b (lines_in bs)))

-- The same from a place of a text on.
pub line-here : (text : List ℕ) (at : ℕ) → at ≤ length text → get_or (lines_in (drop at text)) 0 [] ≡ take (line_end text at - at) (drop at text)
unfolding line_end
line-here text at h =
    let e : at + index_of 10 (drop at text) - at ≡ index_of 10 (drop at text) = omega arith in
    rw e (first-line (drop at text))

-- behind a line's byte 10, or at the end of the text
behind-line : (text : List ℕ) (at : ℕ) → drop (next_line (line_end text at) (length text)) text ≡ drop (suc (index_of 10 (drop at text))) (drop at text)
unfolding line_end next_line
behind-line text at =
    let k = index_of 10 (drop at text) in
    let e : at + suc k ≡ suc (at + k) = omega arith in
    rw (drop-drop (suc k) at text, e)
    (by_bool (ltb (at + k) (length text))
    (λ t. rw t)
    (λ t. let l = ltb-false (at + k) (length text) t in
    rw (t, drop-length text, drop_of_length-le text {i = suc (at + k)} (omega arith))))

pub line-rest : (text : List ℕ) (at : ℕ) → at ≤ length text → lines_in (drop (next_line (line_end text at) (length text)) text) ≡ drop 1 (lines_in (drop at text))
line-rest text at h = rw (behind-line text at) (other-lines (drop at text))

pub none_left : (text : List ℕ) → lines_in (drop (length text) text) ≡ []
unfolding lines_in
none_left text = rw (drop-length text)

some-lines : (t : List ℕ) → 1 ≤ length t → 1 ≤ length (lines_in t)
some-lines [] h = absurd (omega arith)
some-lines (b ∷ bs) h = some-line b bs

pub some_left : (text : List ℕ) (at : ℕ) → at < length text → 1 ≤ length (lines_in (drop at text))
some_left text at h = some-lines (drop at text) (rw (length-drop at text) (omega arith))
