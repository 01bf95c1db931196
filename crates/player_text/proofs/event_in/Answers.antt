-- `event_in`: by what the line says.
use mathlib.Core.Path.{refl}
use Rattle.player_text.specs.Player.{event_in}
use Rattle.player_text.proofs.event_in.Goals as goal

pub returns-in_err-s : goal.returns-in_err-s
unfolding event_in
returns-in_err-s c = rw c.in_err-s.was c.from_residual.ensures

pub returns-in-Ask : goal.returns-in-Ask
unfolding event_in
returns-in-Ask c = rw (c.in_ok-s.was, c.in-Ask.is) refl

pub returns-in-Leave : goal.returns-in-Leave
unfolding event_in
returns-in-Leave c = rw (c.in_ok-s.was, c.in-Leave.is) refl

pub returns-in-Move : goal.returns-in-Move
unfolding event_in
returns-in-Move c = rw (c.in_ok-s.was, c.in-Move.is) refl

pub returns-in-Sites : goal.returns-in-Sites
unfolding event_in
returns-in-Sites c = rw (c.in_ok-s.was, c.in-Sites.is) refl

pub returns-in-Set : goal.returns-in-Set
unfolding event_in
returns-in-Set c = rw (c.in_ok-s.was, c.in-Set.is) refl
