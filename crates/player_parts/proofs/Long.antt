-- A line that is too long, and a run that has ended.
use Prim.Native.Nat.{ℕ, ◌<◌}
use mathlib.Core.Path.{◌≡◌, refl, sym, ap, ◌∙◌}
use mathlib.Core.List.{List, [], ◌∷◌, ◌++◌, append-nil}
use native.Mathlib.Omega.{arith}
use borrow.Author.Tests.{lt-leb}
use lib.Dec.{eqb, leb}
use lib.ListN.{length, length-append}
use Rattle.basics.proofs.Basics.{by_bool}
use Rattle.player_grammar.specs.Grammar.{line_limit, meaning_of}
use Rattle.std.specs.Prelude.{None}
use Rattle.player_text.specs.declared.Stage.{Stage}
use Rattle.player_text.specs.declared.Stage.TheVariants.{Size, Sets, Events, Over}
use Rattle.player_text.specs.Player.{Text, stopped, size_in, set_in, event_in, on_size, on_set, on_event, at_stage, on_line, ends_at, on_end, transcript}
use Rattle.player_text.proofs.Stages.{line-over, end-over}
use Rattle.player_parts.specs.Parts.{reads}

too_long : (line : List ℕ) → line_limit < length line → meaning_of line ≡ None
unfolding meaning_of
too_long line h = rw (lt-leb (length line) line_limit h)

-- one such line does what another does
pub long-alike : (p : Text) (line other : List ℕ) → line_limit < length line → line_limit < length other → on_line p line ≡ on_line p other
unfolding on_line
long-alike p line other g h = ap (λ m. at_stage p.stage p m) (too_long line g ∙ sym (too_long other h))

-- a malformed line ends the run, and prints what the end of the input prints inside a line
malformed-ends : (s : Stage) (p : Text) → p.stage ≡ s → (at_stage s p None).next.stage ≡ Over
unfolding at_stage on_size on_set on_event size_in set_in event_in stopped
malformed-ends Size p e = refl
malformed-ends Sets p e = refl
malformed-ends Events p e = refl
malformed-ends Over p e = e

malformed-said : (s : Stage) (p : Text) (line : List ℕ) → 0 < length line → ends_at s p line ≡ (at_stage s p None).said
unfolding at_stage on_size on_set on_event size_in set_in event_in stopped ends_at
malformed-said Size p line h = refl
malformed-said Sets p line h = refl
malformed-said Events p [] h = absurd (omega arith)
malformed-said Events p (b ∷ line) h = refl
malformed-said Over p line h = refl

pub long-ends : (p : Text) (line : List ℕ) → line_limit < length line → (on_line p line).next.stage ≡ Over
unfolding on_line
long-ends p line h = rw (too_long line h) (malformed-ends p.stage p refl)

long-at-end : (p : Text) (line : List ℕ) → line_limit < length line → on_end p line ≡ (on_line p line).said
unfolding on_line on_end
long-at-end p line h = rw (too_long line h) (malformed-said p.stage p line (omega arith))

-- one byte more
still-long : (line : List ℕ) (b : ℕ) → line_limit < length line → line_limit < length (line ++ (b ∷ []))
still-long line b h = rw (length-append line (b ∷ [])) (omega arith)

-- Once the run has ended nothing is printed.
pub transcript-over : (p : Text) (line bs : List ℕ) → p.stage ≡ Over → transcript p line bs ≡ []
unfolding transcript
transcript-over p line [] e = end-over p line e
transcript-over p line (b ∷ bs) e =
    by_bool (eqb b 10)
    (λ t. rw (t, line-over p line e) (transcript-over p [] bs e))
    (λ t. rw t (transcript-over p (line ++ (b ∷ [])) bs e))

pub reads_over : (p : Text) (line bs : List ℕ) → p.stage ≡ Over → ((reads p line bs).said ≡ []) × ((reads p line bs).next ≡ p)
unfolding reads
reads_over p line [] e = (refl, refl)
reads_over p line (b ∷ bs) e =
    by_bool (eqb b 10)
    (λ t. rw (t, line-over p line e) (reads_over p [] bs e))
    (λ t. by_bool (leb (length (line ++ (b ∷ []))) line_limit)
    (λ u. rw (t, u) (reads_over p (line ++ (b ∷ [])) bs e))
    (λ u. rw (t, u, line-over p (line ++ (b ∷ [])) e) (reads_over p [] bs e)))

-- A line that is too long prints the same whatever follows it.
pub long-transcript : (p : Text) (line bs : List ℕ) → line_limit < length line → transcript p line bs ≡ (on_line p line).said
unfolding transcript
long-transcript p line [] h = long-at-end p line h
long-transcript p line (b ∷ bs) h =
    by_bool (eqb b 10)
    (λ t. rw (t, transcript-over (on_line p line).next [] bs (long-ends p line h)) (append-nil (on_line p line).said))
    (λ t. let g = still-long line b h in
    rw t (long-transcript p (line ++ (b ∷ [])) bs g ∙ ap (λ o. o.said) (long-alike p (line ++ (b ∷ [])) line g h)))
