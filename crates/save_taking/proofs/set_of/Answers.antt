-- `set_of`: the number, or 0.
use mathlib.Core.Path.{refl}
use Rattle.save_taking.proofs.set_of.Goals as goal

pub returns-in_default : goal.returns-in_default
returns-in_default c = rw (← c.set_in.ensures, c.in_default.is) refl

pub returns : goal.returns
returns c = rw (← c.set_in.ensures, c.in-Some.is) refl
