-- Request 2.2: a mode and an arbiter as numbers, and back. Only "what a well-shaped state leaves open" is written.
use Rattle.std.specs.Prelude.{ℕ, not, cond, List, [], ◌∷◌, eqb, get_or}
use Rattle.rig.specs.declared.Arbiter.{Arbiter}
use Rattle.rig.specs.declared.Mode.{Mode}
use Rattle.rig.specs.declared.Mode.TheVariants.{Rest, Waiting, Inside}

-- number i of a line, from 0; 0 where it lacks
abbrev pub nth : List ℕ → ℕ → ℕ
nth ns i = get_or ns i 0

-- A mode: 0 at rest; 1 waiting, with the sequence number and the failed mark; 2 inside.
unfoldable pub mode_numbers : Mode → List ℕ
mode_numbers Rest = 0 ∷ []
mode_numbers (Waiting s f) = 1 ∷ s ∷ cond f 1 0 ∷ []
mode_numbers Inside = 2 ∷ []

unfoldable pub mode_from : List ℕ → Mode
mode_from ns =
    cond (eqb (nth ns 0) 0) Rest
    (cond (eqb (nth ns 0) 1) (Waiting (nth ns 1) (not (eqb (nth ns 2) 0)))
    Inside)

-- A holder: 0 none; else the site and its sequence number.
unfoldable pub holder_numbers : Arbiter → List ℕ
holder_numbers a = cond (eqb a.holder 0) (0 ∷ []) (a.holder ∷ a.seq ∷ [])

-- an arbiter, from its grant number and the numbers of its holder
unfoldable pub arbiter_from : ℕ → List ℕ → Arbiter
arbiter_from grant ns = record { grant = grant; holder = nth ns 0; seq = nth ns 1 }
