use Prim.Native.Nat.{◌+◌, ◌≤◌, ◌-◌}
use mathlib.Core.Path.{◌≡◌}
use lib.ListN.{length, take}
use Rattle.player_grammar.specs.Grammar.{line_limit}
use Rattle.player_printing.specs.Printing.{page_length}
use Rattle.player_text.specs.Calls.{text, PlayerFits}
use Rattle.player_reading.specs.Reading.{ReadTo}
use Rattle.player_reading.proofs.read_part.Given as goal

abbrev pub invariant-loop-from : goal.invariant-loop-from
invariant-loop-from l = PlayerFits l.q l.tables l.list × (l.n ≤ line_limit) × (length l.line_bytes ≡ line_limit + 1) × (length l.page ≡ page_length)
    × ReadTo (text l.initial.q l.initial.tables l.initial.list) (take l.held l.initial.line_bytes) l.given l.initial.out l.from (text l.q l.tables l.list) (take l.n l.line_bytes) l.at l.out

abbrev pub decreases-loop-from : goal.decreases-loop-from
decreases-loop-from l = length l.given - l.from
