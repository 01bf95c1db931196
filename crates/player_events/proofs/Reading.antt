-- A part of a text read line by line: one part behind another, and one line more.
use Prim.Native.Nat.{ℕ, suc, ◌+◌, ◌-◌, ◌^◌, ◌≤◌, ◌<◌}
use mathlib.Core.List.{List, [], ◌∷◌, ◌++◌, append-nil}
use mathlib.Core.Path.{◌≡◌, refl, sym, ap, ◌∙◌}
use native.Mathlib.Omega.{arith}
use borrow.Author.Tests.{leb-true, leb-false, eqb-true}
use lib.Dec.{eqb, leb}
use lib.ListN.{length, take, drop, length-drop}
use lib.Seq.{take-add, drop-drop, length-sets}
use Rattle.basics.proofs.Basics.{by_bool}
use Rattle.byte_scan.specs.Bytes.{index_after, index_of}
use Rattle.player_grammar.specs.Grammar.{line_limit}
use Rattle.player_printing.specs.Printing.{page_length, Printed}
use Rattle.player_bytes.specs.Wrote.{Wrote}
use Rattle.player_printing.proofs.Lines.{printed-part}
use Rattle.player_bytes.proofs.Stores.{wrote-more}
use Rattle.player_text.specs.Player.{Text, Outcome, outcome, on_line}
use Rattle.player_parts.specs.Parts.{Part, said_before, reads}
use Rattle.player_parts.proofs.Loop.{line_end, reads_more, reads-line, reads-long}
use Rattle.player_next.specs.Lines.{between, LineTo}
use Rattle.player_events.specs.Stretches.{Plays}

-- A whole line of any length: one that is too long is judged before its end, and the run is over.
abbrev of_line : Outcome → Part
of_line o = record { said = o.said; next = o.next; line = [] }

whole-line : (p : Text) (ls : List ℕ) → length ls ≤ line_end ls → reads p [] (ls ++ 10 ∷ []) ≡ of_line (on_line p ls)
unfolding reads
whole-line p ls n =
    by_bool (leb (length ls) line_limit)
    (λ u. reads-line p [] ls [] n (leb-true _ _ u) ∙ rw (append-nil (on_line p ls).said))
    (λ u.
    let r = reads-long p [] ls (10 ∷ []) n (omega arith) (leb-false _ _ u) in
    let e : (reads p [] (ls ++ 10 ∷ [])).line ≡ [] = ap (λ (x : Part). x.line) (reads_more p [] ls (10 ∷ [])) in
    λ j. record { said = r.0 j; next = r.1 j; line = e j })

-- the bytes up to the first byte 10, and with it
no_end : (bs : List ℕ) → length (take (line_end bs) bs) ≤ line_end (take (line_end bs) bs)
unfolding index_of index_after
no_end [] = omega arith
no_end (b ∷ bs) =
    by_bool (eqb b 10)
    (λ t. rw t (omega arith))
    (λ t. rw t (rw t (omega (arith, no_end bs))))

with-end : (bs : List ℕ) → line_end bs < length bs → take (suc (line_end bs)) bs ≡ take (line_end bs) bs ++ 10 ∷ []
unfolding index_of index_after
with-end [] h = absurd (omega arith)
with-end (b ∷ bs) h =
    by_bool (eqb b 10)
    (λ t. rw t (ap (λ (x : ℕ). x ∷ []) (eqb-true b 10 t)))
    (λ t. let g : suc (line_end bs) < suc (length bs) = rw t at h in
    rw t (ap (λ (l : List ℕ). b ∷ l) (with-end bs (omega arith))))

module _ {end read : ℕ} {bytes : List ℕ} (l : LineTo end read bytes) where
  -- the bytes up to the end of a line, and the line
  more_bytes : (from : ℕ) → from ≤ read → between from (end + 1) bytes ≡ between from read bytes ++ take (suc (line_end (drop read bytes))) (drop read bytes)
  more_bytes from h =
      let first = l.first in
      let n : end + 1 - from ≡ (read - from) + suc (index_of 10 (drop read bytes)) = omega arith in
      let m : from + (read - from) ≡ read = omega arith in
      rw (n, take-add (read - from) (suc (index_of 10 (drop read bytes))) (drop from bytes), drop-drop (read - from) from bytes, m)

  line-bytes : between read end bytes ≡ take (index_of 10 (drop read bytes)) (drop read bytes)
  line-bytes =
      let first = l.first in
      let n : end - read ≡ index_of 10 (drop read bytes) = omega arith in
      rw n

  -- the place behind the line
  pub next_fits : length bytes < 2 ^ 64 → end + 1 < 2 ^ 64
  next_fits h = let within = l.within in omega arith

  pub less-left : length bytes - (end + 1) < length bytes - read
  less-left = let within = l.within in let first = l.first in omega arith

  -- the line behind a stretch is played too
  pub plays-line : {t u : Text} {out mid after : List ℕ} {at k to : ℕ} (from : ℕ) → Plays t (between from read bytes) u at out mid k → from ≤ read
      → (said : List ℕ) (v : Text) → on_line u (between read end bytes) ≡ outcome said v → Wrote said k mid after to
      → Plays t (between from (end + 1) bytes) v at out after to
  plays-line {t} {u} from p h said v e w =
      let xs = between from read bytes in
      let rest = drop read bytes in
      let first = l.first in
      let within = l.within in
      let inside : index_of 10 rest < length rest = rw length-drop (omega arith) in
      let line = take (line_end rest) rest in
      let same : reads t [] (between from (end + 1) bytes) ≡ said_before (reads t [] xs).said (of_line (outcome said v)) =
      rw (more_bytes from h, with-end rest inside, reads_more t [] xs (line ++ 10 ∷ []), p.whole, ← p.known, whole-line u line (no_end rest), ← line-bytes, e) in
      record {
        whole = ap (λ (r : Part). r.line) same;
        known = sym (ap (λ (r : Part). r.next) same);
        printed = rw (ap (λ (r : Part). r.said) same) (wrote-more p.printed w);
      }

-- before the first line of a stretch
pub plays-nothing : (t u : Text) (bytes out : List ℕ) (from at : ℕ) → u ≡ t → Plays t (between from from bytes) u at out out at
unfolding reads
plays-nothing t u bytes out from at h =
    let e : from - from ≡ 0 = omega arith in
    record { whole = rw e; known = rw e h; printed = rw e (record { behind = omega arith; stored = refl }) }

pub wrote-long : {said out after : List ℕ} {at to : ℕ} → Wrote said at out after to → length after ≡ length out
wrote-long {said} {out} {after} {at} w = rw w.stored (length-sets out at said)

-- A line that stands on a page goes to the output.
module _ {line page after : List ℕ} {n : ℕ} (p : Printed line page after n) (long : length page ≡ page_length) where
  pub fits-page : length (take n after) ≤ page_length
  fits-page = let part = printed-part p in let l = p.long in omega arith

  pub copied : {out copy : List ℕ} {at to : ℕ} → at + page_length ≤ length out → Wrote (take n after) at out copy to → Wrote line at out copy to × (to ≤ length out)
  copied room w = let b = w.behind in let f = fits-page in (rw p.text at w, omega arith)
