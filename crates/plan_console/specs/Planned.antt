-- What a call promises that reads its words from the operating system: some words were read, as many as arguments were asked for, and their
-- command is planned.
use Rattle.std.specs.Prelude.{ℕ, List, ◌≡◌, length}
use Rattle.plan_numbers.specs.declared.Given.{Given}
use Rattle.plan_numbers.specs.Given.{with_word, given}
use Rattle.plan_text.specs.declared.Output.{Output}
use Rattle.plan_text.specs.Plan.{Prints}

-- one word more
pub record ReadsWord (before after : Given) : Type 0 where
  pub word : List ℕ
  pub read : after ≡ with_word before word

-- `count` words
pub record ReadsWords (count : ℕ) (after : Given) : Type 0 where
  pub words : List (List ℕ)
  pub counted : length words ≡ count
  pub read : after ≡ given words

-- a family's name, and `count` words behind it
pub record PlansWords (count : ℕ) (page after : List ℕ) (r : Output) : Type 0 where
  pub name : List ℕ
  pub words : List (List ℕ)
  pub counted : length words ≡ count
  pub printed : Prints name (given words) page after r
