-- Document 01, "The first message from a to b".
use Rattle.std.specs.Prelude.{ℕ, List}
use Rattle.rig.specs.declared.Message.{Message}
use Rattle.model.specs.Deliver.{between}
use Rattle.list_search.specs.declared.Found.{Found}
use Rattle.list_search.specs.Places.{place_from}

-- the place of the first message from a to b; `found_in` of list_search says the same of rows
abbrev pub first_in : ℕ → ℕ → List Message → Found
first_in a b ms = place_from 0 (between a b) ms
