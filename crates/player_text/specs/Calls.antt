-- The player as the code has it: what its calls ask, and what they promise.
use Rattle.std.specs.Prelude.{ℕ, ◌≤◌, ◌<◌, ◌≡◌, Bool, true, false, List, length, replicate}
use Rattle.rig.specs.Limits.{site_limit, message_limit, blank_tables}
use Rattle.model.specs.Setup.{no_rig}
use Rattle.model.specs.State.{Stored}
use Rattle.list_rows.specs.Rows.{zero_rows, ZeroPast}
use Rattle.list_rows.specs.State.{stored, Lent}
use Rattle.model_shaped.specs.Kept.{Playable}
use Rattle.player_printing.specs.Printing.{Printed}
use Rattle.player_text.specs.declared.Player.{Player}
use Rattle.player_text.specs.declared.Said.{Said}
use Rattle.player_text.specs.declared.Stage.{Stage}
use Rattle.player_text.specs.declared.Stage.TheVariants.{Size, Sets, Events, Over}
use Rattle.player_text.specs.Player.{Text, Outcome, on_end}

-- what the player knows, with the state of its rig
abbrev pub text_of : Player → Stored → Text
text_of p s = record { stage = p.stage; line = p.line; step = p.step; size = p.size; given = p.given; sets = p.sets; state = s }

-- with the tables and the list that it is lent
abbrev pub text : Player → List (List (List ℕ)) → List (List ℕ) → Text
text p ts rows = text_of p (stored p.rig ts rows p.count)

-- before the first event: tables of zeros, and a list of zeros
pub record Untouched (ts : List (List (List ℕ))) (rows : List (List ℕ)) : Type 0 where
  pub none_stored : ts ≡ blank_tables
  pub none_under_way : rows ≡ zero_rows

-- A state among the events. Where it is tested before each, it may be misshapen, but has a list of 1,024 entries; else it is well shaped, and so
-- are the states that follow.
abbrev pub FitsEvents : Bool → Stored → Type 0
FitsEvents true s = (length s.list ≡ message_limit) × (s.count ≤ message_limit)
FitsEvents false s = Playable s

-- what holds at each stage: N and the sets still to come; a state among the events
abbrev pub HoldsAt : Stage → Player → List (List (List ℕ)) → List (List ℕ) → Type 0
HoldsAt Size p ts rows = Untouched ts rows
HoldsAt Sets p ts rows = Untouched ts rows × (p.size ≤ site_limit) × (p.given < p.size)
HoldsAt Events p ts rows = FitsEvents p.tested (stored p.rig ts rows p.count) × ZeroPast p.count rows
HoldsAt Over p ts rows = Unit

-- the player and what it is lent belong together, as its first call and every later one leave them
pub record PlayerFits (p : Player) (ts : List (List (List ℕ))) (rows : List (List ℕ)) : Type 0 where
  pub fits : HoldsAt p.stage p ts rows

-- the player before its first line, and once the run has ended
abbrev pub beginning : Player
beginning = record { stage = Size; line = 0; step = 0; size = 0; given = 0; sets = replicate site_limit 0; rig = no_rig; count = 0; tested = false }

abbrev pub over : Player → Player
over p = record { stage = Over; line = p.line; step = p.step; size = p.size; given = p.given; sets = p.sets; rig = p.rig; count = p.count; tested = p.tested }

-- the outcome's bytes stand on the page, n of them, and the outcome's text is what the player then knows
pub record GivesOutcome (o : Outcome) (next : Text) (page after : List ℕ) (n : ℕ) : Type 0 where
  pub known : next ≡ o.next
  pub printed : Printed o.said page after n

-- what a call is lent gives an outcome, and fits the next player
abbrev pub Gives : Outcome → Said → Lent (List (List (List ℕ))) → Lent (List (List ℕ)) → Lent (List ℕ) → Type 0
Gives o r ts rows page =
    GivesOutcome o (text r.player ts.exit.now rows.exit.now) page.entry.now page.exit.now r.printed
    × PlayerFits r.player ts.exit.now rows.exit.now

-- what the player knows before a call
abbrev pub before : Player → Lent (List (List (List ℕ))) → Lent (List (List ℕ)) → Text
before p ts rows = text p ts.entry.now rows.entry.now

-- What a line does before the first event, when no table is touched: the outcome f, for whatever tables the player is lent at that stage.
abbrev pub BeforeEvents : Stage → (Text → Outcome) → Player → List ℕ → List ℕ → Said → Type 0
BeforeEvents stage f p page after r =
    (ts : List (List (List ℕ))) (rows : List (List ℕ)) → HoldsAt stage p ts rows →
    GivesOutcome (f (text p ts rows)) (text r.player ts rows) page after r.printed × PlayerFits r.player ts rows

-- What is printed at the end of the input, whatever the state of the rig: nothing of it is read.
abbrev pub Ended : Player → List ℕ → List ℕ → List ℕ → ℕ → Type 0
Ended p rest page after n = (s : Stored) → Printed (on_end (text_of p s) rest) page after n
