-- `resume`: what the text says, and the player that goes on from it.
use mathlib.Core.Path.{refl}
use Rattle.state_resuming.proofs.Read.{fits-events, says_nothing}
use Rattle.state_resuming.proofs.resume.Goals as goal

pub returns-then-read-ne0 : goal.returns-then-read-ne0
returns-then-read-ne0 c =
    let read = c.read_rows-read.ensures in
    record {
      resumes = says_nothing _ _ read.code c.if-read-ne0.true c.begin-first.ensures.value;
      playing_fits = c.begin-first.ensures.playing_fits;
    }

pub going_on-playing-requires : goal.going_on-playing-requires
going_on-playing-requires c =
    let read = c.read_rows-read.ensures in
    let zero = c.if-read-ne0.false in
    (rw c.all_granted-tested.ensures (fits-events _ _ (read.read zero)), read.zeros zero)

pub returns : goal.returns
returns c =
    let read = c.read_rows-read.ensures in
    let zero = c.if-read-ne0.false in
    let on = c.going_on-playing.ensures.result_value in
    record {
      resumes = rw (read.read zero) (refl, on.0, on.1);
      playing_fits = on.2;
    }
