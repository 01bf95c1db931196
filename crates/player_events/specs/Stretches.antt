-- What a stretch of a text leaves.
use Rattle.std.specs.Prelude.{ℕ, ◌+◌, ◌≤◌, ◌<◌, List, [], ◌⊎◌, ◌≡◌, length}
use Rattle.rig.specs.declared.Rig.{Rig}
use Rattle.list_rows.specs.State.{Lent}
use Rattle.player_printing.specs.Printing.{stop_line, page_length}
use Rattle.player_bytes.specs.Wrote.{Wrote}
use Rattle.player_parts.specs.Parts.{reads}
use Rattle.player_text.specs.declared.Player.{Player}
use Rattle.player_text.specs.declared.Stage.TheVariants.{Events, Over}
use Rattle.player_text.specs.Player.{Text, counted}
use Rattle.player_text.specs.Calls.{text, over, PlayerFits}
use Rattle.player_events.specs.declared.Stretch.{Stretch}
use Rattle.player_next.specs.Lines.{between, NoLine}

-- the player p, among its events, with other places, another rig and another count
abbrev pub player_at : Player → ℕ → ℕ → Rig → ℕ → Player
player_at p line step g n = record { stage = Events; line = line; step = step; size = p.size; given = p.given; sets = p.sets; rig = g; count = n; tested = p.tested }

-- These bytes are whole lines. Read from t on, they leave u; what they print stands in the output from place `at` on, and nothing else
-- changed there. `to` is the place behind it.
pub record Plays (t : Text) (bytes : List ℕ) (u : Text) (at : ℕ) (out after : List ℕ) (to : ℕ) : Type 0 where
  pub whole : (reads t [] bytes).line ≡ []
  pub known : u ≡ (reads t [] bytes).next
  pub printed : Wrote (reads t [] bytes).said at out after to

-- no whole line is left, the run has ended, or the output has less room left than a page
abbrev pub Ends : List ℕ → List ℕ → Stretch → Type 0
Ends bytes out r = NoLine bytes r.from ⊎ ((r.player.stage ≡ Over) ⊎ (length out < r.at + page_length))

-- The bytes from `from` on are played as far as the answer says, and printed from place `at` on. Where the run has ended, further lines may have
-- been read, which do nothing.
pub record Stretches (p : Player) (ts ts' : List (List (List ℕ))) (rows rows' : List (List ℕ)) (bytes : List ℕ) (from : ℕ) (out after : List ℕ) (at : ℕ) (r : Stretch) : Type 0 where
  pub plays : Plays (text p ts rows) (between from r.from bytes) (text r.player ts' rows') at out after r.at
  pub fits : PlayerFits r.player ts' rows'
  pub low : from ≤ r.from
  pub high : r.from ≤ length bytes
  pub room : r.at ≤ length out
  pub ends : Ends bytes out r

-- the run has ended with 11, its line printed from place `at` on
pub record Stops (p : Player) (at from : ℕ) (out after : List ℕ) (r : Stretch) : Type 0 where
  pub player : r.player ≡ over p
  pub read : r.from ≡ from
  pub printed : Wrote (stop_line 11 (counted p.line)) at out after r.at
  pub room : r.at ≤ length out

-- `Stretches` of what a call is lent
abbrev pub LeavesStretch : Player → Lent (List (List (List ℕ))) → Lent (List (List ℕ)) → List ℕ → ℕ → Lent (List ℕ) → ℕ → Stretch → Type 0
LeavesStretch p ts rows bytes from out at r =
    Stretches p ts.entry.now ts.exit.now rows.entry.now rows.exit.now bytes from out.entry.now out.exit.now at r
