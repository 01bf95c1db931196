-- Document 01, "The player": "Each event prints its place from 1, its code (0 accepted), the site inside (0 none), the count waiting and
-- the count under way."
use Rattle.std.specs.Prelude.{ℕ, ◌+◌, List, [], ◌∷◌}
use Rattle.rig.specs.declared.Rig.{Rig}
use Rattle.rig.specs.declared.Event.{Event}
use Rattle.basics.specs.Helpers.{lowest}
use Rattle.model.specs.State.{Stored, mode_in, is_inside}
use Rattle.model.specs.Event.{Answer, event}
use Rattle.model.specs.Run.{waiting_count}

pub record Line : Type 0 where
  pub step : ℕ
  pub code : ℕ
  pub inside : ℕ
  pub waiting : ℕ
  pub flying : ℕ

-- the lowest of the sites 1 to n that is inside, 0 none
unfoldable pub inside_up_to : Rig → ℕ → ℕ
inside_up_to g n = lowest (λ k. is_inside (mode_in g k)) n

unfoldable pub line_of : ℕ → Answer → Line
line_of place a = record {
  step = place;
  code = a.code;
  inside = inside_up_to a.next.tables.rig a.next.tables.rig.size;
  waiting = waiting_count a.next.tables.rig;
  flying = a.next.count;
}

-- the lines of a run, the first at a place
unfoldable pub printed : ℕ → Stored → List Event → List Line
printed place s [] = []
printed place s (e ∷ es) = let a = event s e in line_of place a ∷ printed (place + 1) a.next es
