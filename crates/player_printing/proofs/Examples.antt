-- Numbers and lines as they print, by calculation.
use mathlib.Core.List.{[], ◌∷◌}
use mathlib.Core.Path.{◌≡◌, refl}
use Rattle.player_bytes.specs.Decimal.{digits, decimal}
use Rattle.player_printing.specs.Printing.{step_line, stop_line}

-- 0, 10 and 2 ^ 64 - 1
numbers :
    (decimal 0 ≡ 48 ∷ [])
    × (decimal 10 ≡ 49 ∷ 48 ∷ [])
    × (decimal 18446744073709551615 ≡ 49 ∷ 56 ∷ 52 ∷ 52 ∷ 54 ∷ 55 ∷ 52 ∷ 52 ∷ 48 ∷ 55 ∷ 51 ∷ 55 ∷ 48 ∷ 57 ∷ 53 ∷ 53 ∷ 49 ∷ 54 ∷ 49 ∷ 53 ∷ [])
unfolding decimal digits
numbers = (refl, refl, refl)

-- `step=13 code=7 inside=0 waiting=0 flying=0`, as document 01 prints it
step-13 : step_line 13 7 0 0 0 ≡ 115 ∷ 116 ∷ 101 ∷ 112 ∷ 61 ∷ 49 ∷ 51 ∷ 32 ∷ 99 ∷ 111 ∷ 100 ∷ 101 ∷ 61 ∷ 55 ∷ 32 ∷ 105 ∷ 110 ∷ 115 ∷ 105 ∷ 100 ∷ 101 ∷ 61 ∷ 48 ∷ 32 ∷ 119 ∷ 97 ∷ 105 ∷ 116 ∷ 105 ∷ 110 ∷ 103 ∷ 61 ∷ 48 ∷ 32 ∷ 102 ∷ 108 ∷ 121 ∷ 105 ∷ 110 ∷ 103 ∷ 61 ∷ 48 ∷ 10 ∷ []
unfolding step_line decimal digits
step-13 = refl

-- `stop=11 line=2`
stop-11 : stop_line 11 2 ≡ 115 ∷ 116 ∷ 111 ∷ 112 ∷ 61 ∷ 49 ∷ 49 ∷ 32 ∷ 108 ∷ 105 ∷ 110 ∷ 101 ∷ 61 ∷ 50 ∷ 10 ∷ []
unfolding stop_line decimal digits
stop-11 = refl
