-- The value of a line that is to be written, as the code has it.
use Rattle.std.specs.Prelude.{ℕ, ◌-◌, List, ◌∷◌, ◌++◌, length, replicate}
use Rattle.rig.specs.Limits.{site_limit}
use Rattle.save_fields.specs.declared.Value.{Value}

-- the numbers of a line, and 0 behind them
abbrev pub padded_numbers : List ℕ → List ℕ
padded_numbers ns = ns ++ replicate (site_limit - length ns) 0

abbrev pub value_of : List ℕ → Value
value_of ns = record { numbers = padded_numbers ns; count = length ns }

-- five numbers and 0 behind them, of which the first n are those of the line
abbrev pub first_five : ℕ → ℕ → ℕ → ℕ → ℕ → ℕ → Value
first_five a b c d e n = record { numbers = a ∷ b ∷ c ∷ d ∷ e ∷ replicate (site_limit - 5) 0; count = n }
