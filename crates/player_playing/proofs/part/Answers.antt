-- `part`: the state taken apart, played, and put together.
use Rattle.player_state.specs.State.{known, cut_line}
use Rattle.player_playing.proofs.Parts.{held-short, continues}
use Rattle.player_playing.proofs.part.Goals as goal

pub read_part-r-requires : goal.read_part-r-requires
read_part-r-requires c =
    let p = c.requires in
    rw (c.held_of.ensures, c.player_of.ensures, c.list_of-list.ensures, c.tables_of-tables.ensures) (p.fits, p.room)

pub state_of-playing-requires : goal.state_of-playing-requires
state_of-playing-requires c =
    let e = c.read_part-r.ensures in
    record { fits = e.1; room = e.2 }

pub returns : goal.returns
returns c =
    let a = c.args in
    let e = c.read_part-r.ensures in
    let read = rw (c.held_of.ensures, c.line_of.ensures, c.player_of.ensures, c.list_of-list.ensures, c.tables_of-tables.ensures) at e.0 in
    rw c.state_of-playing.ensures record {
      leaves_played = (read, record { fits = e.1; room = e.2 }, e.3);
      continues = λ rest. continues (known a.s) (cut_line a.s) a.given.now rest (held-short a.s c.requires.room) read;
    }
