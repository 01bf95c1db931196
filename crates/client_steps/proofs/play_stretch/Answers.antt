-- `play_stretch`: by what `play_events` says of its end.
use mathlib.Core.Path.{refl}
use mathlib.Core.Bool.{false}
use mathlib.Core.Logic.{inl}
use Rattle.basics.proofs.Basics.{clash}
use Rattle.client_steps.proofs.Ends.{ends_at}
use Rattle.client_steps.proofs.play_stretch.Goals as goal

pub returns-in-Over : goal.returns-in-Over
returns-in-Over c = record { done = λ e. clash false e refl; cut = λ _. inl c.in-Over.is }

pub returns-in_default : goal.returns-in_default
returns-in_default c = ends_at c.play_events-stretch.ensures c.in_default.not-Over
