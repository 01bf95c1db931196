-- What a refused event answers.
use Rattle.std.specs.Prelude.{ℕ}
use Rattle.rig.specs.declared.Rig.{Rig}
use Rattle.rig.specs.declared.Answer.{Answer}

-- the code, and the rig and the count as they came
abbrev pub refused : ℕ → Rig → ℕ → Answer
refused code g count = record { code = code; rig = g; count = count }
