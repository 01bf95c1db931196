-- The messages of lines, and the rows that are filled with them one by one.
use Prim.Native.Nat.{ℕ, suc, ◌+◌, ◌-◌, ◌≤◌, ◌<◌}
use mathlib.Core.List.{List, [], ◌++◌, map, map-append, append_assoc}
use mathlib.Core.Path.{◌≡◌, sym, ap, ◌∙◌}
use native.Mathlib.Omega.{arith}
use lib.ListN.{length, take, drop, get_or, set, replicate, length-append, length-map, length-drop, length-replicate}
use lib.Seq.{take-suc, take_all, drop-drop, get_or-drop, length-take-le, set_at}
use Rattle.rig.specs.Limits.{message_limit}
use Rattle.list_rows.specs.Rows.{row_of, zero_row}
use Rattle.save_lines.specs.Lines.{lines_in, numbers_in}
use Rattle.save_numbers.proofs.Places.{line-here, line-rest, none_left, some_left}
use Rattle.save_messages.specs.Messages.{message_from}
use Rattle.save_taking.specs.Places.{line_here, numbers_here, place_behind}
use Rattle.save_reading.specs.Lines.{messages_in, message_rows}

-- the rows once k lines are read
abbrev pub rows_so_far : List (List ℕ) → ℕ → List (List ℕ)
rows_so_far ls k = map row_of (messages_in (take k ls)) ++ replicate (message_limit - k) zero_row

made-long : (ls : List (List ℕ)) (k : ℕ) → k ≤ length ls → length (map row_of (messages_in (take k ls))) ≡ k
made-long ls k h = length-map (messages_in (take k ls)) row_of ∙ (length-map (take k ls) (λ l. message_from (numbers_in l)) ∙ length-take-le k ls h)

pub rows_long : (ls : List (List ℕ)) (k : ℕ) → k ≤ length ls → k ≤ message_limit → length (rows_so_far ls k) ≡ message_limit
rows_long ls k h room =
    length-append (map row_of (messages_in (take k ls))) (replicate (message_limit - k) zero_row)
    ∙ rw (made-long ls k h, length-replicate (message_limit - k) zero_row) (omega arith)

pub row_more : (ls : List (List ℕ)) (k : ℕ) → k < length ls → k < message_limit
    → set (rows_so_far ls k) k (row_of (message_from (numbers_in (get_or ls k [])))) ≡ rows_so_far ls (suc k)
row_more ls k h room =
    let e : message_limit - k ≡ suc (message_limit - suc k) = omega arith in
    rw e
    (set_at (map row_of (messages_in (take k ls))) zero_row (replicate (message_limit - suc k) zero_row) _ k (made-long ls k (omega arith))
    ∙ rw (take-suc ls k [] h, map-append, map-append, append_assoc))

pub all-rows : (ls : List (List ℕ)) (k : ℕ) → k ≡ length ls → rows_so_far ls k ≡ message_rows (messages_in ls)
all-rows ls k e = rw (e, take_all (length ls) ls (omega arith), length-map ls (λ l. message_from (numbers_in l)))

-- The lines from a place on, of which k are read at the place `next`.
module _ (text : List ℕ) (ls : List (List ℕ)) (k next : ℕ) (within : next ≤ length text) (left : lines_in (drop next text) ≡ drop k ls) where
  pub line_read : numbers_here text next ≡ numbers_in (get_or ls k [])
  unfolding line_here
  line_read =
      let e : k + 0 ≡ k = omega arith in
      rw (← line-here text next within, left, get_or-drop k ls 0 [], e)

  pub line-passed : lines_in (drop (place_behind text next) text) ≡ drop (suc k) ls
  line-passed =
      let e : k + 1 ≡ suc k = omega arith in
      line-rest text next within ∙ rw (left, drop-drop 1 k ls, e)

  pub more_left : next < length text → k < length ls
  more_left h = omega (arith, rw (left, length-drop k ls) at (some_left text next h))

  pub none_more : length text ≤ next → length ls ≤ k
  none_more h =
      let e : next ≡ length text = omega arith in
      let z : drop k ls ≡ [] = sym left ∙ rw e (none_left text) in
      omega (arith, rw (length-drop k ls) at (ap length z))
