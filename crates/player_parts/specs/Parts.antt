-- A text of the player that arrives in parts, cut anywhere, also inside a line.
use Rattle.std.specs.Prelude.{ℕ, cond, ◌≡◌, eqb, leb, length}
use mathlib.Core.List.{List, [], ◌∷◌, ◌++◌, flatten}
use Rattle.player_grammar.specs.Grammar.{line_limit}
use Rattle.player_text.specs.Player.{Text, on_line, on_end, start, output}

-- What a part prints, what the player then knows, and what was read of the line that the end of the part cut.
pub record Part : Type 0 where
  pub said : List ℕ
  pub next : Text
  pub line : List ℕ

-- bytes printed first, and then what the rest of the part prints
abbrev pub said_before : List ℕ → Part → Part
said_before bytes r = record { said = bytes ++ r.said; next = r.next; line = r.line }

-- The bytes of a part, one by one. `line` is what was read of the present line, in this part or an earlier one. Byte 10 ends the line, and it is
-- judged. Any other byte is put behind it. A byte that makes it longer than `line_limit` has it judged at once: such a line is malformed, whatever
-- follows. So no more than `line_limit` bytes of a line are ever kept.
unfoldable pub reads : Text → List ℕ → List ℕ → Part
reads p line [] = record { said = []; next = p; line = line }
reads p line (b ∷ bs) =
    let o = on_line p line in
    let longer = line ++ (b ∷ []) in
    let l = on_line p longer in
    let ended = said_before o.said (reads o.next [] bs) in
    let too_long = said_before l.said (reads l.next [] bs) in
    let inside = cond (leb (length longer) line_limit) (reads p longer bs) too_long in
    cond (eqb b 10) ended inside

-- What the parts print, one behind the other, and then the end of the input.
unfoldable pub written : Text → List ℕ → List (List ℕ) → List ℕ
written p line [] = on_end p line
written p line (part ∷ parts) =
    let r = reads p line part in
    r.said ++ written r.next r.line parts

-- For every text and every way to cut it into parts, what the parts print, joined, is what the text prints.
unfoldable pub CutsAgree : Type 0
CutsAgree = (parts : List (List ℕ)) → written start [] parts ≡ output (flatten parts)
