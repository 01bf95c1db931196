-- What parts print does not depend on the cuts.
use Prim.Native.Nat.{ℕ, ◌≤◌}
use mathlib.Core.Path.{◌≡◌, refl, sym, ap, ◌∙◌}
use mathlib.Core.List.{List, [], ◌∷◌, ◌++◌, flatten, append-nil, append_assoc}
use native.Mathlib.Omega.{arith}
use borrow.Author.Tests.{leb-true, leb-false}
use lib.Dec.{eqb, leb}
use lib.ListN.{length}
use Rattle.basics.proofs.Basics.{by_bool}
use Rattle.player_grammar.specs.Grammar.{line_limit}
use Rattle.player_text.specs.Player.{Text, on_line, start, transcript, output}
use Rattle.player_parts.specs.Parts.{reads, written, CutsAgree}
use Rattle.player_parts.proofs.Long.{long-ends, transcript-over, long-transcript}

-- no more than `line_limit` bytes of a line are kept
pub line-short : (p : Text) (line bs : List ℕ) → length line ≤ line_limit → length (reads p line bs).line ≤ line_limit
unfolding reads
line-short p line [] h = h
line-short p line (b ∷ bs) h =
    by_bool (eqb b 10)
    (λ t. rw t (line-short (on_line p line).next [] bs (omega arith)))
    (λ t. by_bool (leb (length (line ++ (b ∷ []))) line_limit)
    (λ u. rw (t, u) (line-short p (line ++ (b ∷ [])) bs (leb-true _ _ u)))
    (λ u. rw (t, u) (line-short (on_line p (line ++ (b ∷ []))).next [] bs (omega arith))))

joined : (s : List ℕ) {a : List ℕ} (b c : List ℕ) → a ≡ b ++ c → s ++ a ≡ s ++ b ++ c
joined s b c e = ap (λ z. s ++ z) e ∙ sym (append_assoc s b c)

-- what a text prints: what its first bytes print as a part, and then the others
pub reads-transcript : (p : Text) (line xs ys : List ℕ) → length line ≤ line_limit →
    transcript p line (xs ++ ys) ≡ (reads p line xs).said ++ transcript (reads p line xs).next (reads p line xs).line ys
unfolding reads transcript
reads-transcript p line [] ys h = refl
reads-transcript p line (b ∷ xs) ys h =
    by_bool (eqb b 10)
    (λ t. let o = on_line p line in
    let r = reads o.next [] xs in
    rw t (joined o.said r.said (transcript r.next r.line ys) (reads-transcript o.next [] xs ys (omega arith))))
    (λ t. by_bool (leb (length (line ++ (b ∷ []))) line_limit)
    (λ u. rw (t, u) (reads-transcript p (line ++ (b ∷ [])) xs ys (leb-true _ _ u)))
    (λ u. let o = on_line p (line ++ (b ∷ [])) in
    let r = reads o.next [] xs in
    let g = leb-false _ _ u in
    let none = transcript-over o.next [] (xs ++ ys) (long-ends p (line ++ (b ∷ [])) g) in
    rw (t, u) (
    long-transcript p (line ++ (b ∷ [])) (xs ++ ys) g
    ∙ sym (append-nil o.said)
    ∙ joined o.said r.said (transcript r.next r.line ys) (sym none ∙ reads-transcript o.next [] xs ys (omega arith)))))

pub written-transcript : (p : Text) (line : List ℕ) (parts : List (List ℕ)) → length line ≤ line_limit → written p line parts ≡ transcript p line (flatten parts)
unfolding written transcript flatten
written-transcript p line [] h = refl
written-transcript p line (part ∷ parts) h =
    let r = reads p line part in
    ap (λ z. r.said ++ z) (written-transcript r.next r.line parts (line-short p line part h))
    ∙ sym (reads-transcript p line part (flatten parts) h)

pub cuts-agree : CutsAgree
unfolding CutsAgree output
cuts-agree parts = written-transcript start [] parts (omega arith)
