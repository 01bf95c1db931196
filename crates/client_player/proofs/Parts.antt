-- Two parts as one.
use Prim.Native.Nat.{ℕ, ◌+◌, ◌-◌, ◌<◌}
use mathlib.Core.List.{List, ◌++◌, append_assoc, append-nil}
use mathlib.Core.Path.{◌≡◌, sym, ap, ◌∙◌}
use native.Mathlib.Omega.{arith}
use lib.ListN.{length, take, drop, length-append, length-drop, drop_of_length-le}
use lib.Seq.{take_all, take-append-le, take-append-add, drop-append-add, drop-drop, length-take-le}
use Rattle.player_text.specs.Player.{Text, transcript}
use Rattle.player_parts.specs.Parts.{Part, said_before, reads}
use Rattle.player_parts.proofs.Loop.{reads_more}
use Rattle.player_reading.specs.Reading.{ReadTo, AllOrFull}

-- whatever follows a part, what is printed is what the part wrote, and then what is printed from there on
abbrev pub Goes : Text → List ℕ → List ℕ → ℕ → Text → List ℕ → ℕ → List ℕ → Type 0
Goes t line bytes from u cut at after =
    (rest : List ℕ) → transcript t line (take from bytes ++ rest) ≡ take at after ++ transcript u cut rest

-- a list whose elements from a place on are written anew
pub put-end : (xs ys : List ℕ) (at : ℕ) → take at xs ++ (ys ++ drop (length xs - at) (drop at xs)) ≡ take at xs ++ ys
put-end xs ys at =
    rw (drop_of_length-le (drop at xs) {i = length xs - at} (omega (arith, length-drop at xs)), append-nil ys)

module _ {t u : Text} {line cut a out mid : List ℕ} {n at : ℕ} (b : List ℕ) (r : ReadTo t line a out n u cut at mid) where
  -- a first part that is not all read: the second is not begun
  module _ (less : n < length a) where
    pub first_read : ReadTo t line (a ++ b) out n u cut at mid
    first_read = record {
      part = rw (take-append-le n a b (omega arith)) r.part;
      rest = r.rest;
      long = r.long;
      within = rw (length-append a b) (omega arith);
      room = r.room;
    }

    pub first_goes : Goes t line a n u cut at mid → Goes t line (a ++ b) n u cut at mid
    first_goes g rest = rw (take-append-le n a b (omega arith)) (g rest)

    pub first-full : AllOrFull a out n at → AllOrFull (a ++ b) out n at
    first-full f h = f less

  -- one that is, and then the second, behind what the first wrote
  module _ {v : Text} {cut' after : List ℕ} {m at' : ℕ} (all : (n < length a → ⊥)) (q : ReadTo u cut b (drop at mid) m v cut' at' after) where
    size : n ≡ length a
    size = let within = r.within in omega (arith, all)

    front : length (take at mid) ≡ at
    front = length-take-le at mid r.room

    both : take (n + m) (a ++ b) ≡ a ++ take m b
    both = rw size (take-append-add a b m)

    wrote : take (at + at') (take at mid ++ after) ≡ take at mid ++ take at' after
    wrote = rw (ap (λ (k : ℕ). k + at') (sym front)) (take-append-add (take at mid) after at')

    pub both_read : ReadTo t line (a ++ b) out (n + m) v cut' (at + at') (take at mid ++ after)
    both_read =
        let first : reads t line a ≡ record { said = take at mid; next = u; line = cut } = rw (take_all n a (omega (arith, size))) at r.part in
        let then : reads t line (a ++ take m b) ≡ said_before (take at mid) (reads u cut (take m b)) =
        reads_more t line a (take m b) ∙ ap (λ (p : Part). said_before p.said (reads p.next p.line (take m b))) first in
        let within = q.within in
        let room = q.room in
        let inside = r.room in
        let long = q.long in
        record {
          part = rw (both, wrote) (then ∙ ap (λ (p : Part). said_before (take at mid) p) q.part);
          rest = unwritten;
          long = length-append (take at mid) after ∙ omega (arith, front, length-drop at mid, r.long);
          within = rw (length-append a b) (omega (arith, size));
          room = rw (length-append (take at mid) after) (omega (arith, front));
        }
      where
        unwritten : drop (at + at') (take at mid ++ after) ≡ drop (at + at') out
        unwritten =
            rw (ap (λ (k : ℕ). k + at') (sym front)) (drop-append-add (take at mid) after at')
            ∙ q.rest
            ∙ ap (λ (l : List ℕ). drop at' l) r.rest
            ∙ drop-drop at' at out

    pub both_go : Goes t line a n u cut at mid → Goes u cut b m v cut' at' after → Goes t line (a ++ b) (n + m) v cut' (at + at') (take at mid ++ after)
    both_go g h rest =
        rw (both, wrote, append_assoc a (take m b) rest, append_assoc (take at mid) (take at' after) (transcript v cut' rest))
        (rw (take_all n a (omega (arith, size))) at (g (take m b ++ rest)) ∙ ap (λ (l : List ℕ). take at mid ++ l) (h rest))

    pub both-full : AllOrFull b (drop at mid) m at' → AllOrFull (a ++ b) out (n + m) (at + at')
    both-full f h =
        let room = r.room in
        let long = r.long in
        let full = f (omega (arith, size, length-append a b)) in
        omega (arith, length-drop at mid)
