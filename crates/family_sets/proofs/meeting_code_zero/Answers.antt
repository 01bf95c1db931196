use mathlib.Core.Path.{refl}
use Rattle.family_sets.proofs.Meeting.{meeting-code-zero}
use Rattle.family_sets.proofs.meeting_code_zero.Goals as goal

pub returns : goal.returns
returns c = (refl, meeting-code-zero)
