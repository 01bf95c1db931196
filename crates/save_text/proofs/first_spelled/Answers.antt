use mathlib.Core.Path.{refl}
use Rattle.save_text.proofs.FirstSpelled.{first-spelled}
use Rattle.save_text.proofs.first_spelled.Goals as goal

pub returns : goal.returns
returns c = (refl, first-spelled)
