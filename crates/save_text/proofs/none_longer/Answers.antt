use mathlib.Core.Path.{refl}
use Rattle.save_text.proofs.Longest.{none-longer}
use Rattle.save_text.proofs.none_longer.Goals as goal

pub returns : goal.returns
returns c = (refl, none-longer)
