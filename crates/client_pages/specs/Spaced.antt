-- A page on which one line is printed.
use Rattle.std.specs.Prelude.{ℕ, ◌-◌, List, ◌++◌, ◌≡◌, length, replicate}
use Rattle.player_printing.specs.Printing.{page_length}
use Rattle.player_text.specs.Player.{Outcome}
use Rattle.player_text.specs.Calls.{text, PlayerFits}
use Rattle.client_pages.specs.declared.LinePage.{LinePage}

-- a line, and spaces behind it
unfoldable pub spaced : List ℕ → List ℕ
spaced line = line ++ replicate (page_length - length line) 32

-- the outcome of a line: what it prints, on a page of spaces, and what the player then knows
pub record OnPage (o : Outcome) (ts : List (List (List ℕ))) (rows : List (List ℕ)) (r : LinePage) : Type 0 where
  pub page : r.page ≡ spaced o.said
  pub known : text r.player ts rows ≡ o.next
  pub fits : PlayerFits r.player ts rows
