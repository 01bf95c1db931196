-- What fills a buffer of sets.
use Rattle.std.specs.Prelude.{ℕ, ◌^◌, ◌<◌, ◌≡◌, Bool}
use Rattle.family_sets.specs.Rule.{set_by}

-- whatever a call, which `gives` tells, answers of a number is the set of the site of that number
abbrev pub AnswersSets : (ℕ → ℕ → Type 0) → (ℕ → ℕ → Bool) → ℕ → Type 0
AnswersSets gives takes size = (n set : ℕ) → n < 2 ^ 64 → gives n set → set ≡ set_by takes size n
