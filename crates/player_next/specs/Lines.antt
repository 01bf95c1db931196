-- The line that starts at a place of a text.
use Rattle.std.specs.Prelude.{ℕ, ◌+◌, ◌-◌, ◌<◌, ◌≤◌, List, ◌≡◌, length, take, drop, Option, MatchOption}
use Rattle.byte_scan.specs.Bytes.{index_of}
use Rattle.player_grammar.specs.Grammar.{meaning_of}
use Rattle.player_text.specs.Player.{event_in}
use Rattle.player_next.specs.declared.WholeLine.{WholeLine}

-- the bytes from one place up to another
abbrev pub between : ℕ → ℕ → List ℕ → List ℕ
between from to bytes = take (to - from) (drop from bytes)

-- the first byte 10 from a place on stands at `end`
pub record LineTo (end from : ℕ) (bytes : List ℕ) : Type 0 where
  pub within : end < length bytes
  pub first : end ≡ from + index_of 10 (drop from bytes)

-- no byte 10 stands there or behind
abbrev pub NoLine : List ℕ → ℕ → Type 0
NoLine bytes from = length (drop from bytes) ≤ index_of 10 (drop from bytes)

-- what is found at a place: a whole line with what it means as an event, or no whole line
abbrev pub Finds : List ℕ → ℕ → Option WholeLine → Type 0
Finds bytes from found =
    MatchOption found (NoLine bytes from) (λ l. LineTo l.end from bytes × (event_in (meaning_of (between from l.end bytes)) ≡ l.event))
