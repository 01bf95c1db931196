use mathlib.Core.Path.{refl}
use Rattle.save_text.proofs.ReadBack.{read_back, written_back}
use Rattle.save_text.proofs.read_back.Goals as goal

pub returns : goal.returns
returns c = (refl, read_back, written_back)
