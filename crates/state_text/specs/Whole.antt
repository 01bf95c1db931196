-- What the calls print that play a text from a state and then save: joined, they are `saved` of the text.
use Rattle.std.specs.Prelude.{ℕ, true, false, List, [], ◌∷◌, ◌++◌, ◌≡◌, take}
use Rattle.std.proofs.Math.Option.{some}
use Rattle.model.specs.State.{Stored}
use Rattle.player_text.specs.Player.{on_end}
use Rattle.player_parts.specs.Parts.{reads}
use Rattle.player_state.specs.declared.Playing.{Playing}
use Rattle.player_state.specs.State.{known, cut_line, first_playing, resumed, over_at}
use Rattle.player_whole.specs.Whole.{Call, read_by, written_by, InOrder}
use Rattle.state_text.specs.State.{last_line, at_end, saved, save_prints, save_from_prints, play_from_prints}

-- a call of `part` on a state: what it promises of the bytes that it read
abbrev pub PartCall : Playing → Call → Type 0
PartCall s c =
    reads (known s) (cut_line s) (take c.answer.taken c.given)
    ≡ record { said = take c.answer.written c.out.exit.now; next = known c.answer.playing; line = cut_line c.answer.playing }

-- each call keeps its promise on the state that the one before it left; the last one leaves t
unfoldable pub PartsInOrder : Playing → List Call → Playing → Type 0
PartsInOrder s [] t = s ≡ t
PartsInOrder s (c ∷ cs) t = PartCall s c × PartsInOrder c.answer.playing cs t

abbrev pub is_over : Playing → Type 0
is_over s = over_at s.player.stage ≡ true

abbrev pub goes_on : Playing → Type 0
goes_on s = over_at s.player.stage ≡ false

-- at the end of the input, where the run has not ended: what `save_end` prints
unfoldable pub SavedAtEnd : Type 0
SavedAtEnd =
    (s t : Playing) (calls : List Call) → cut_line s ≡ [] → PartsInOrder s calls t → goes_on t →
    at_end (known t) (cut_line t) ≡ saved (known s) (read_by calls)

-- where a call ends the run: the last line that it wrote, whatever would follow
unfoldable pub SavedAtStop : Type 0
SavedAtStop =
    (s t : Playing) (calls : List Call) (c : Call) (rest : List ℕ) → cut_line s ≡ [] → PartsInOrder s calls t → goes_on t → PartCall t c → is_over c.answer.playing →
    last_line (take c.answer.written c.out.exit.now) ≡ saved (known s) (read_by calls ++ (take c.answer.taken c.given ++ rest))

-- The commands at the end of their input, by the calls that they make: `state save < TEXT` from the first player on,
unfoldable pub SavePrinted : Type 0
SavePrinted = (t : Playing) (calls : List Call) → PartsInOrder first_playing calls t → goes_on t → at_end (known t) (cut_line t) ≡ save_prints (read_by calls)

-- and from the player that goes on from what was read: `state save SAVED < EVENTS`,
unfoldable pub SaveFromPrinted : Type 0
SaveFromPrinted =
    (s : Stored) (p t : Playing) (calls : List Call) → known p ≡ resumed s → cut_line p ≡ [] → PartsInOrder p calls t → goes_on t →
    at_end (known t) (cut_line t) ≡ save_from_prints (some s) (read_by calls)

-- `state play SAVED < EVENTS`
unfoldable pub PlayFromPrinted : Type 0
PlayFromPrinted =
    (s : Stored) (p t : Playing) (calls : List Call) → known p ≡ resumed s → cut_line p ≡ [] → InOrder p calls t →
    written_by calls ++ on_end (known t) (cut_line t) ≡ play_from_prints (some s) (read_by calls)
