-- A part that is read, by `transcript`.
use Prim.Native.Nat.{ℕ, ◌≤◌}
use mathlib.Core.Path.{◌≡◌, ap, ◌∙◌}
use mathlib.Core.List.{List, ◌++◌}
use native.Mathlib.Omega.{arith}
use lib.ListN.{length, take, length-take}
use Rattle.player_grammar.specs.Grammar.{line_limit}
use Rattle.player_text.specs.Player.{Text, transcript}
use Rattle.player_parts.specs.Parts.{Part}
use Rattle.player_parts.proofs.Cuts.{reads-transcript}
use Rattle.player_reading.specs.Reading.{ReadTo}
use Rattle.player_state.specs.declared.Playing.{Playing}
use Rattle.player_state.specs.State.{cut_line}

-- a line that is held is no longer than `line_limit`
pub held-short : (s : Playing) → s.held ≤ line_limit → length (cut_line s) ≤ line_limit
held-short s h = omega (arith, h, length-take s.held s.line)

pub continues : (start : Text) (line bytes rest : List ℕ) → length line ≤ line_limit
    → {out after cut : List ℕ} {from at : ℕ} {next : Text} → ReadTo start line bytes out from next cut at after
    → transcript start line (take from bytes ++ rest) ≡ take at after ++ transcript next cut rest
continues start line bytes rest h {from = from} r =
    reads-transcript start line (take from bytes) rest h ∙ ap (λ (x : Part). x.said ++ transcript x.next x.line rest) r.part
