-- A part that is read line by line: its start, a line that ends in it, and a line that it cuts.
use Prim.Native.Nat.{ℕ, zero, suc, ◌+◌, ◌-◌, ◌≤◌, ◌<◌}
use mathlib.Core.Bool.{true, false, cond}
use mathlib.Core.Path.{◌≡◌, refl, sym, ap, subst, ◌∙◌}
use mathlib.Core.List.{List, [], ◌∷◌, ◌++◌, append-nil, append_assoc}
use native.Mathlib.Nat.{add-zero}
use native.Mathlib.Omega.{arith}
use lib.Dec.{eqb, leb}
use lib.ListN.{length, take, drop, length-append, length-drop}
use lib.Seq.{take-add, take_at, drop_at, drop-drop, sets-eq, length-sets, length-take-le}
use Rattle.basics.proofs.Basics.{by_bool, clash}
use Rattle.player_grammar.specs.Grammar.{line_limit}
use Rattle.player_bytes.specs.Wrote.{Wrote}
use Rattle.player_printing.specs.Printing.{page_length}
use Rattle.player_text.specs.declared.Player.{Player}
use Rattle.player_text.specs.Player.{Text, Outcome, on_line}
use Rattle.player_text.specs.Calls.{text}
use Rattle.player_cuts.specs.Joins.{Joins, joins, joined}
use Rattle.player_parts.specs.Parts.{Part, reads}
use Rattle.player_parts.proofs.Loop.{reads_more}
use Rattle.player_events.specs.declared.Stretch.{Stretch}
use Rattle.player_next.specs.Lines.{between}
use Rattle.player_reading.specs.Reading.{ReadTo, GoesOn}

-- what a part leaves that ends where the line j is joined
abbrev ends : Text → Joins → Part
ends p j =
    let o = on_line p j.line in
    cond j.whole (record { said = o.said ++ []; next = o.next; line = [] }) (record { said = []; next = p; line = j.line })

-- the bytes that the line takes, and what they do as a part
pub record Span (p : Text) (n : ℕ) (line bs : List ℕ) (j : Joins) : Type 0 where
  pub bytes : ℕ
  pub taken : j.taken ≡ n + bytes
  pub within : bytes ≤ length bs
  pub some : 1 ≤ length bs → 1 ≤ bytes
  pub all : j.whole ≡ false → bytes ≡ length bs
  pub read : reads p line (take bytes bs) ≡ ends p j

-- one byte: the line ends, it grows, or it is too long
module _ (b : ℕ) (line bs : List ℕ) where
  abbrev longer : List ℕ
  longer = line ++ (b ∷ [])

  joined_end : (n : ℕ) → eqb b 10 ≡ true → joined n line (b ∷ bs) ≡ joins line (n + 1) true
  unfolding joined
  joined_end n t = rw t

  joined-more : (n : ℕ) → eqb b 10 ≡ false → leb (length longer) line_limit ≡ true → joined n line (b ∷ bs) ≡ joined (n + 1) longer bs
  unfolding joined
  joined-more n t u = rw (t, u)

  joined-long : (n : ℕ) → eqb b 10 ≡ false → leb (length longer) line_limit ≡ false → joined n line (b ∷ bs) ≡ joins longer (n + 1) true
  unfolding joined
  joined-long n t u = rw (t, u)

  reads_end : (p : Text) → eqb b 10 ≡ true → reads p line (b ∷ []) ≡ ends p (joins line 0 true)
  unfolding reads
  reads_end p t = rw t

  reads-grown : (p : Text) (xs : List ℕ) → eqb b 10 ≡ false → leb (length longer) line_limit ≡ true → reads p line (b ∷ xs) ≡ reads p longer xs
  unfolding reads
  reads-grown p xs t u = rw (t, u)

  reads-too-long : (p : Text) → eqb b 10 ≡ false → leb (length longer) line_limit ≡ false → reads p line (b ∷ []) ≡ ends p (joins longer 0 true)
  unfolding reads
  reads-too-long p t u = rw (t, u)

joined-none : (n : ℕ) (line : List ℕ) → joined n line [] ≡ joins line n false
unfolding joined
joined-none n line = refl

reads_none : (p : Text) (line : List ℕ) → reads p line [] ≡ ends p (joins line 0 false)
unfolding reads
reads_none p line = refl

pub span : (p : Text) (n : ℕ) (line bs : List ℕ) → Span p n line bs (joined n line bs)
span p n line [] = subst (Span p n line []) (sym (joined-none n line)) (record { bytes = 0; taken = sym (add-zero _); within = omega arith; some = λ h. h; all = λ w. refl; read = reads_none p line })
span p n line (b ∷ bs) =
    by_bool (eqb b 10)
    (λ t. subst (Span p n line (b ∷ bs)) (sym (joined_end b line bs n t)) (record { bytes = 1; taken = refl; within = omega arith; some = λ h. omega arith; all = λ w. clash true refl w; read = reads_end b line bs p t }))
    (λ t. by_bool (leb (length (line ++ (b ∷ []))) line_limit)
    (λ u. let s = span p (n + 1) (line ++ (b ∷ [])) bs in
    subst (Span p n line (b ∷ bs)) (sym (joined-more b line bs n t u))
    (record { bytes = suc s.bytes; taken = s.taken ∙ omega arith; within = omega (arith, s.within); some = λ h. omega arith; all = λ w. ap suc (s.all w); read = reads-grown b line bs p (take s.bytes bs) t u ∙ s.read }))
    (λ u. subst (Span p n line (b ∷ bs)) (sym (joined-long b line bs n t u)) (record { bytes = 1; taken = refl; within = omega arith; some = λ h. omega arith; all = λ w. clash true refl w; read = reads-too-long b line bs p t u })))

module _ {start : Text} {line text out : List ℕ} where
  pub begins : ReadTo start line text out 0 start line 0 out
  unfolding reads
  begins = record { part = refl; rest = refl; long = refl; within = omega arith; room = omega arith }

  module _ {from at : ℕ} {next : Text} {cut after : List ℕ} (r : ReadTo start line text out from next cut at after) where
    -- the line that is joined next
    abbrev j : Joins
    j = joined from cut (drop from text)

    more : reads start line (take j.taken text) ≡ record { said = take at after ++ (ends next j).said; next = (ends next j).next; line = (ends next j).line }
    more =
        let s = span next from cut (drop from text) in
        rw (s.taken, take-add from s.bytes text, reads_more start line (take from text) (take s.bytes (drop from text)), r.part, s.read)

    in-text : j.taken ≤ length text
    in-text =
        let s = span next from cut (drop from text) in
        omega (arith, s.taken, s.within, length-drop from text, r.within)

    pub cuts : j.whole ≡ false → ReadTo start line text out j.taken next j.line at after
    cuts w = record { part = more ∙ rw (w, append-nil); rest = r.rest; long = r.long; within = in-text; room = r.room }

    -- the reading comes further, while there are bytes
    pub further : 1 ≤ length (drop from text) → from + 1 ≤ j.taken
    further h =
        let s = span next from cut (drop from text) in
        omega (arith, s.taken, s.some h)

    -- bytes that leave no line cut: what they print is put behind the output
    pub prints : {from' at' : ℕ} {u : Text} {after' said : List ℕ}
        → reads start line (take from' text) ≡ record { said = take at after ++ said; next = u; line = [] } → from' ≤ length text
        → Wrote said at after after' at' → at' ≤ length after → ReadTo start line text out from' u [] at' after'
    prints {from'} {at'} {u} {after'} {said} e f x h =
        let whole : after' ≡ (take at after ++ said) ++ drop at' after = x.stored ∙ sets-eq said after at (omega (arith, x.behind)) ∙ rw (← x.behind, append_assoc) in
        let len : length (take at after ++ said) ≡ at' = length-append (take at after) said ∙ rw (length-take-le at after r.room) (sym x.behind) in
        let front : take at' after' ≡ take at after ++ said = rw whole (take_at (take at after ++ said) (drop at' after) at' len) in
        let back : drop at' after' ≡ drop at' after = rw whole (drop_at (take at after ++ said) (drop at' after) at' len) in
        record {
          part = e ∙ rw front;
          rest = back ∙ rw x.behind (sym (drop-drop (length said) at after) ∙ ap (drop (length said)) r.rest ∙ drop-drop (length said) at out);
          long = rw x.stored (length-sets after at said) ∙ r.long;
          within = f;
          room = rw (x.stored, length-sets after at said) h;
        }

    -- the line is judged, and what it prints is put behind the output
    pub judges : {after' : List ℕ} {at' : ℕ} → j.whole ≡ true → Wrote (on_line next j.line).said at after after' at' → at' ≤ length after
        → ReadTo start line text out j.taken (on_line next j.line).next [] at' after'
    judges w x h = prints (more ∙ rw (w, append-nil)) in-text x h

    -- the same, as a program has it: the line, the place behind it, and what its call leaves
    module _ {bytes : List ℕ} {from' : ℕ} (b : bytes ≡ j.line) (f : from' ≡ j.taken) where
      pub played : {u : Text} {said after' : List ℕ} {at' : ℕ} → j.whole ≡ true → u ≡ (on_line next bytes).next → said ≡ (on_line next bytes).said
          → Wrote said at after after' at' → at' ≤ length after → ReadTo start line text out from' u [] at' after'
      played {u} {said} {after'} {at'} w k e x h =
          let line-is : on_line next bytes ≡ on_line next j.line = ap (on_line next) b in
          let t : ReadTo start line text out j.taken (on_line next j.line).next [] at' after' = judges w (rw (e ∙ ap (λ (o : Outcome). o.said) line-is) at x) h in
          rw (f, k ∙ ap (λ (o : Outcome). o.next) line-is) t

      pub kept : j.whole ≡ false → ReadTo start line text out from' next bytes at after × (from' ≡ length text)
      kept w =
          let s = span next from cut (drop from text) in
          let e = s.all w in
          (rw (f, b) (cuts w), omega (arith, f, s.taken, e, length-drop from text, r.within))

      pub later : 1 ≤ length (drop from text) → from + 1 ≤ from'
      later h = omega (arith, f, further h)

-- whole lines behind what is read
module _ {start : Text} {line text out : List ℕ} {from at : ℕ} {next : Text} {after : List ℕ} (r : ReadTo start line text out from next [] at after) where
  pub goes_on : {u : Text} {after' : List ℕ} (s : Stretch) → GoesOn next text from u at after after' s → ReadTo start line text out s.from u [] s.at after'
  goes_on s g =
      let b = between from s.from text in
      let e : s.from ≡ from + (s.from - from) = omega (arith, g.low) in
      let split : take s.from text ≡ take from text ++ b = ap (λ (k : ℕ). take k text) e ∙ take-add from (s.from - from) text in
      let known : reads next [] b ≡ record { said = (reads next [] b).said; next = _; line = [] } = λ i. record { said = (reads next [] b).said; next = sym g.plays.known i; line = g.plays.whole i } in
      prints r (rw (split, reads_more start line (take from text) b, r.part, known)) g.high g.plays.printed g.room

-- nothing more is read
pub stays : (p : Player) (ts : List (List (List ℕ))) (rows : List (List ℕ)) (text' out : List ℕ) (from at : ℕ) → from ≤ length text' → at ≤ length out
    → GoesOn (text p ts rows) text' from (text p ts rows) at out out (record { player = p; from = from; at = at })
unfolding reads
stays p ts rows text' out from at f a =
    let none : between from from text' ≡ [] = let e : from - from ≡ 0 = omega arith in rw e in
    record { plays = rw none (record { whole = refl; known = refl; printed = record { behind = sym (add-zero at); stored = refl } }); low = omega arith; high = f; room = a }

-- a part with bytes and an output with room for a line: some bytes are read
pub some_read : {start next : Text} {line text' out cut after : List ℕ} {from at : ℕ} → ReadTo start line text' out from next cut at after
    → 1 ≤ length text' → page_length ≤ length out → (from < length text' → length out < at + page_length) → 1 ≤ from
unfolding reads
some_read {from = suc n} r h g f = omega arith
some_read {start} {next} {line} {text'} {out} {cut} {after} {from = zero} {at} r h g f =
    let none : [] ≡ take at after = ap (λ (x : Part). x.said) r.part in
    let e : 0 ≡ at = ap length none ∙ length-take-le at after r.room in
    absurd (omega (arith, e, f (omega (arith, h))))
