-- What an inner call of the printing has done to the page.
use Rattle.std.specs.Prelude.{ℕ, ◌+◌, List, ◌≡◌, length}
use Rattle.std.proofs.lemmas.List.Edits.{sets}

-- these bytes stand on the page from place `at` on, and nothing else changed; `next` is the place behind them
pub record Wrote (bytes : List ℕ) (at : ℕ) (page after : List ℕ) (next : ℕ) : Type 0 where
  pub behind : next ≡ at + length bytes
  pub stored : after ≡ sets page at bytes
