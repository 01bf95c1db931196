-- A planned page, whole.
use Prim.Native.Nat.{ℕ}
use mathlib.Core.List.{List}
use mathlib.Core.Path.{◌≡◌}
use Rattle.player_printing.proofs.Lines.{printed-whole}
use Rattle.plan_numbers.specs.Given.{nothing_given, with_word, with_words}
use Rattle.plan_words.specs.Words.{grid_word}
use Rattle.plan_text.specs.declared.Output.{Output}
use Rattle.plan_text.specs.Plan.{Prints}
use Rattle.client_plan.specs.Whole.{grid_output, grid_page}

pub planned-grid : (side page after : List ℕ) (r : Output) → Prints grid_word (with_word nothing_given side) page after r
    → (r ≡ grid_output side) × (after ≡ grid_page side page)
unfolding grid_output grid_page with_words
planned-grid side page after r q = (rw (← q.0, ← q.1.count), printed-whole q.1)
