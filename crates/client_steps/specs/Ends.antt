-- Where a stretch of events ends.
use Rattle.std.specs.Prelude.{ℕ, ◌+◌, ◌<◌, true, false, List, ◌⊎◌, ◌≡◌, length}
use Rattle.player_printing.specs.Printing.{page_length}
use Rattle.player_text.specs.declared.Stage.TheVariants.{Over}
use Rattle.player_next.specs.Lines.{NoLine}
use Rattle.client_steps.specs.declared.Ending.{Ending}

-- Where it is done, no whole line is left. Where it is not, the run has ended, or the output has no room for another line.
pub record EndsAt (bytes out : List ℕ) (r : Ending) : Type 0 where
  pub done : r.done ≡ true → NoLine bytes r.stretch.from
  pub cut : r.done ≡ false → (r.stretch.player.stage ≡ Over) ⊎ (length out < r.stretch.at + page_length)
