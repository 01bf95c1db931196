-- Document 01, "The player": what a text of events prints, line by line.
use Rattle.std.specs.Prelude.{ℕ, ◌+◌, cond, List, [], ◌∷◌, ◌++◌, eqb, ltb, replicate, Option, Some, None}
use Rattle.rig.specs.declared.Event.{Event}
use Rattle.rig.specs.declared.Event.TheVariants.{Ask as AskBy, Leave as LeaveBy, Deliver}
use Rattle.rig.specs.Limits.{site_limit, message_limit, blank_tables}
use Rattle.model.specs.Tables.{put}
use Rattle.model.specs.Setup.{size_listed, setup_code, no_rig}
use Rattle.model.specs.State.{Stored, tables}
use Rattle.model.specs.Event.{Answer, event, blank_message}
use Rattle.model.specs.Run.{fresh}
use Rattle.model.specs.Printed.{line_of}
use Rattle.setup_faults.specs.Faults.{fault_line}
use Rattle.player_grammar.specs.Grammar.{meaning_of}
use Rattle.player_grammar.specs.declared.Line.{Line}
use Rattle.player_grammar.specs.declared.Line.TheVariants.{Sites, Set, Ask, Leave, Move}
use Rattle.player_printing.specs.Printing.{step_line, stop_line}
use Rattle.player_text.specs.declared.Stage.{Stage}
use Rattle.player_text.specs.declared.Stage.TheVariants.{Size, Sets, Events, Over}

-- What the player knows: which line comes next, the lines read, the events played, N, how many sets were read, the sets, the rig.
pub record Text : Type 0 where
  pub stage : Stage
  pub line : ℕ
  pub step : ℕ
  pub size : ℕ
  pub given : ℕ
  pub sets : List ℕ
  pub state : Stored

-- what a line prints, and what the player then knows
pub record Outcome : Type 0 where
  pub said : List ℕ
  pub next : Text

abbrev pub outcome : List ℕ → Text → Outcome
outcome bytes p = record { said = bytes; next = p }

-- A place is counted from 1, up to the largest number of 64 bits; no run comes near it.
unfoldable pub counted : ℕ → ℕ
counted n = cond (eqb n 18_446_744_073_709_551_615) n (n + 1)

-- "print `stop=CODE line=L` and end the run"
unfoldable pub stopped : Text → ℕ → ℕ → Outcome
stopped p code line = outcome (stop_line code line) (record { stage = Over; line = p.line; step = p.step; size = p.size; given = p.given; sets = p.sets; state = p.state })

-- "11 if it is not of the form below, comes at the wrong place": what a line says where it is at its place
unfoldable pub size_in : Option Line → Option ℕ
size_in (Some (Sites n)) = Some n
size_in (Some (Set s)) = None
size_in (Some (Ask s)) = None
size_in (Some (Leave s)) = None
size_in (Some (Move a b)) = None
size_in None = None

unfoldable pub set_in : Option Line → Option ℕ
set_in (Some (Sites n)) = None
set_in (Some (Set s)) = Some s
set_in (Some (Ask s)) = None
set_in (Some (Leave s)) = None
set_in (Some (Move a b)) = None
set_in None = None

unfoldable pub event_in : Option Line → Option Event
event_in (Some (Sites n)) = None
event_in (Some (Set s)) = None
event_in (Some (Ask s)) = Some (AskBy s)
event_in (Some (Leave s)) = Some (LeaveBy s)
event_in (Some (Move a b)) = Some (Deliver a b)
event_in None = None

-- "line 1 for code 1, given before a later line is read"
unfoldable pub on_size : Text → Option ℕ → Outcome
on_size p None = stopped p 11 (counted p.line)
on_size p (Some n) =
    cond (size_listed n)
    (outcome [] (record { stage = Sets; line = counted p.line; step = p.step; size = n; given = 0; sets = p.sets; state = p.state }))
    (stopped p 1 (counted p.line))

-- "Form is judged line by line; 2 and 3 after the last set, 2 first.", and request 2.6: 17 "straight after 3"
unfoldable pub all_given : Text → List ℕ → Outcome
all_given p sets =
    cond (eqb (setup_code p.size sets) 0)
    (outcome [] (record { stage = Events; line = counted p.line; step = p.step; size = p.size; given = p.size; sets = sets; state = fresh p.size sets p.state.list }))
    (stopped p (setup_code p.size sets) (fault_line p.size sets))

unfoldable pub on_set : Text → Option ℕ → Outcome
on_set p None = stopped p 11 (counted p.line)
on_set p (Some set) =
    let k = p.given + 1 in
    let sets = put p.sets k set in
    cond (ltb k p.size)
    (outcome [] (record { stage = Sets; line = counted p.line; step = p.step; size = p.size; given = k; sets = sets; state = p.state }))
    (all_given p sets)

-- "Each event prints its place from 1, its code (0 accepted), the site inside (0 none), the count waiting and the count under way."
unfoldable pub printed_line : ℕ → Answer → List ℕ
printed_line place a = let l = line_of place a in step_line l.step l.code l.inside l.waiting l.flying

unfoldable pub on_event : Text → Option Event → Outcome
on_event p None = stopped p 11 (counted p.line)
on_event p (Some e) =
    let a = event p.state e in
    let place = counted p.step in
    outcome (printed_line place a) (record { stage = Events; line = counted p.line; step = place; size = p.size; given = p.given; sets = p.sets; state = a.next })

-- one line: "`sites=`, then N lines `set=`, then events"; nothing is read once the run has ended
unfoldable pub at_stage : Stage → Text → Option Line → Outcome
at_stage Size p m = on_size p (size_in m)
at_stage Sets p m = on_set p (set_in m)
at_stage Events p m = on_event p (event_in m)
at_stage Over p m = outcome [] p

unfoldable pub on_line : Text → List ℕ → Outcome
on_line p bytes = at_stage p.stage p (meaning_of bytes)

-- The end of the input, with the bytes behind the last byte 10: "A lacking line has the number it would have had; a last line without byte
-- 10 is malformed."
unfoldable pub ends_at : Stage → Text → List ℕ → List ℕ
ends_at Size p rest = stop_line 11 (counted p.line)
ends_at Sets p rest = stop_line 11 (counted p.line)
ends_at Events p [] = []
ends_at Events p (b ∷ bs) = stop_line 11 (counted p.line)
ends_at Over p rest = []

unfoldable pub on_end : Text → List ℕ → List ℕ
on_end p rest = ends_at p.stage p rest

-- before the first line: tables and a list of zeros
unfoldable pub start : Text
start = record {
  stage = Size;
  line = 0;
  step = 0;
  size = 0;
  given = 0;
  sets = replicate site_limit 0;
  state = record {
    tables = tables no_rig blank_tables;
    list = replicate message_limit blank_message;
    count = 0;
  };
}

-- A whole text: "Lines end in byte 10". `line` is what was read of the present line.
unfoldable pub transcript : Text → List ℕ → List ℕ → List ℕ
transcript p line [] = on_end p line
transcript p line (b ∷ bs) =
    let o = on_line p line in
    cond (eqb b 10) (o.said ++ transcript o.next [] bs)
    (transcript p (line ++ (b ∷ [])) bs)

unfoldable pub output : List ℕ → List ℕ
output text = transcript start [] text
