-- What a rule of one event promises: the effect that it carries out.
use Rattle.std.specs.Prelude.{ℕ, ◌≡◌, List}
use Rattle.model.specs.Desk.{Effect}
use Rattle.event_effects.specs.declared.Acted.{Acted}
use Rattle.list_rows.specs.Rows.{Appends}

-- the desk is the effect's, and the messages sent stand behind the first n rows
pub record CarriesOut (e : Effect) (n : ℕ) (rows after : List (List ℕ)) (r : Acted) : Type 0 where
  pub desk : r.desk ≡ e.desk
  pub appends : Appends e.sent n rows after r.count
