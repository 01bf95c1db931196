-- A part read line by line, as a program's loop does it. `ls` holds no byte 10: `length ls ≤ line_end ls`.
use Prim.Native.Nat.{ℕ, suc, ◌≤◌, ◌<◌}
use mathlib.Core.Path.{◌≡◌, refl, ap, ◌∙◌}
use mathlib.Core.Bool.{false}
use mathlib.Core.List.{List, [], ◌∷◌, ◌++◌, append-nil, append_assoc}
use native.Mathlib.Omega.{arith}
use borrow.Author.Tests.{le-leb, leb-true, leb-false}
use lib.Dec.{eqb, leb}
use lib.ListN.{length, length-append}
use lib.Seq.{append_snoc}
use Rattle.basics.proofs.Basics.{by_bool}
use Rattle.byte_scan.specs.Bytes.{index_after, index_of}
use Rattle.player_grammar.specs.Grammar.{line_limit}
use Rattle.player_text.specs.Player.{Text, Outcome, on_line}
use Rattle.player_parts.specs.Parts.{Part, said_before, reads}
use Rattle.player_parts.proofs.Long.{long-alike, long-ends, reads_over}

pub said-before-twice : (s t : List ℕ) (r : Part) → said_before s (said_before t r) ≡ said_before (s ++ t) r
said-before-twice s t r = rw (append_assoc s t r.said)

-- a part is its first bytes, and then the others
pub reads_more : (p : Text) (line xs ys : List ℕ) →
    reads p line (xs ++ ys) ≡ said_before (reads p line xs).said (reads (reads p line xs).next (reads p line xs).line ys)
unfolding reads
reads_more p line [] ys = refl
reads_more p line (b ∷ xs) ys =
    let o = on_line p line in
    let longer = line ++ (b ∷ []) in
    let l = on_line p longer in
    by_bool (eqb b 10)
    (λ t. rw t (goes_on_lem o.said (reads o.next [] xs) (reads_more o.next [] xs ys)))
    (λ t. by_bool (leb (length longer) line_limit)
    (λ u. rw (t, u) (reads_more p longer xs ys))
    (λ u. rw (t, u) (goes_on_lem l.said (reads l.next [] xs) (reads_more l.next [] xs ys))))
  where
    goes_on_lem : (s : List ℕ) (r : Part) {q : Part} → q ≡ said_before r.said (reads r.next r.line ys)
        → said_before s q ≡ said_before (s ++ r.said) (reads r.next r.line ys)
    goes_on_lem s r e = ap (λ z. said_before s z) e ∙ said-before-twice s r.said (reads r.next r.line ys)

-- where the first byte 10 is
abbrev pub line_end : List ℕ → ℕ
line_end bs = index_of 10 bs

-- a line's outcome, and then the bytes behind the line's end
abbrev pub goes_on : Outcome → List ℕ → Part
goes_on o bs = said_before o.said (reads o.next [] bs)

-- the first byte of bytes without byte 10
first_byte : (b : ℕ) (ls : List ℕ) → length (b ∷ ls) ≤ line_end (b ∷ ls) → (eqb b 10 ≡ false) × (length ls ≤ line_end ls)
unfolding index_of index_after
first_byte b ls h =
    by_bool (eqb b 10)
    (λ t. let g : suc (length ls) ≤ 0 = rw t at h in absurd (omega arith))
    (λ t. let g : suc (length ls) ≤ suc (line_end ls) = rw t at h in (t, omega arith))

module _ (p : Text) where
  -- bytes without byte 10 are put behind the line
  pub reads_on : (line ls bs : List ℕ) → length ls ≤ line_end ls → length (line ++ ls) ≤ line_limit → reads p line (ls ++ bs) ≡ reads p (line ++ ls) bs
  unfolding reads
  reads_on line [] bs n h = rw (append-nil line)
  reads_on line (b ∷ ls) bs n h =
      let f = first_byte b ls n in
      let e = append_snoc line b ls in
      let g : length (line ++ (b ∷ []) ++ ls) ≤ line_limit = rw e h in
      let k : length (line ++ (b ∷ [])) ≤ line_limit = omega (arith, length-append (line ++ (b ∷ [])) ls) in
      rw (f.0, le-leb (length (line ++ (b ∷ []))) line_limit k)
      (reads_on (line ++ (b ∷ [])) ls bs f.1 g ∙ ap (λ l. reads p l bs) e)

  -- a line that ends in this part
  pub reads-line : (line ls bs : List ℕ) → length ls ≤ line_end ls → length (line ++ ls) ≤ line_limit
      → reads p line (ls ++ 10 ∷ bs) ≡ goes_on (on_line p (line ++ ls)) bs
  unfolding reads
  reads-line line ls bs n h = reads_on line ls (10 ∷ bs) n h

  -- A line that gets too long: it is judged, with whatever of it was read, and nothing behind it does anything.
  pub reads-long : (line ls bs : List ℕ) → length ls ≤ line_end ls → length line ≤ line_limit → line_limit < length (line ++ ls)
      → ((reads p line (ls ++ bs)).said ≡ (on_line p (line ++ ls)).said)
      × ((reads p line (ls ++ bs)).next ≡ (on_line p (line ++ ls)).next)
  unfolding reads
  reads-long line [] bs n h g = let e = length-append line [] in absurd (omega arith)
  reads-long line (b ∷ ls) bs n h g =
      let f = first_byte b ls n in
      let longer = line ++ (b ∷ []) in
      let e = append_snoc line b ls in
      let w : line_limit < length (longer ++ ls) = rw e g in
      by_bool (leb (length longer) line_limit)
      (λ u. rw (f.0, u, ← e) (reads-long longer ls bs f.1 (leb-true _ _ u) w))
      (λ u. let over = long-ends p longer (leb-false _ _ u) in
      let r = reads_over (on_line p longer).next [] (ls ++ bs) over in
      let same = long-alike p longer (line ++ b ∷ ls) (leb-false _ _ u) g in
      rw (f.0, u, r.0, r.1) (append-nil (on_line p longer).said ∙ ap (λ o. o.said) same, ap (λ o. o.next) same))
