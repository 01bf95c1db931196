-- A site's entries in three rows, and what one turn over them does.
use Rattle.std.specs.Prelude.{ℕ, ◌≡◌, List}
use Rattle.rig.specs.declared.Desk.{Desk}
use Rattle.list_rows.specs.State.{Lent}
use Rattle.event_effects.specs.Effects.{CarriesOut}
use Rattle.model.specs.Desk.{with_entries}
use Rattle.model.specs.Site.{failed_set, yielded_if}

-- for each arbiter: the grant number held, the heir, the remembered inquire's number
pub record Entries : Type 0 where
  pub held : List ℕ
  pub heir : List ℕ
  pub inquired : List ℕ

abbrev pub entries : List ℕ → List ℕ → List ℕ → Entries
entries he hr iq = record { held = he; heir = hr; inquired = iq }

-- the rows that a call is lent, before it and after it
abbrev pub before : Lent (List ℕ) → Lent (List ℕ) → Lent (List ℕ) → Entries
before he hr iq = entries he.entry.now hr.entry.now iq.entry.now

abbrev pub after : Lent (List ℕ) → Lent (List ℕ) → Lent (List ℕ) → Entries
after he hr iq = entries he.exit.now hr.exit.now iq.exit.now

-- a desk with its failed mark set and these entries
abbrev pub failed_with : Desk → Entries → Desk
failed_with d x = with_entries (failed_set d) x.held x.heir x.inquired

-- a turn for site j, on any desk of this number and set whose failed mark is set: from the entries x to the entries y, as `yielded_if`
-- says, with what is sent behind the first n rows
abbrev pub YieldsIf : ℕ → ℕ → ℕ → Entries → Entries → ℕ → List (List ℕ) → List (List ℕ) → ℕ → Type 0
YieldsIf number members j x y n rows rows' r =
    (d : Desk) → d.number ≡ number → d.members ≡ members →
    CarriesOut (yielded_if (failed_with d x) j) n rows rows' (record { desk = failed_with d y; count = r })
