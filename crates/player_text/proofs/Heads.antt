-- How a line before the first event may end: the run stops, goes on, or its events begin.
use Prim.Native.Nat.{ℕ, ◌+◌, ◌≤◌, ◌<◌}
use mathlib.Core.Path.{◌≡◌, refl}
use mathlib.Core.Bool.{false}
use mathlib.Core.List.{List, [], map}
use Rattle.std.specs.Prelude.{Some}
use native.Mathlib.Numerals.{add-one}
use lib.ListN.{set}
use borrow.Author.Tests.{le-leb, lt-ltb}
use Rattle.rig.specs.declared.Rig.{Rig}
use Rattle.rig.specs.Limits.{site_limit}
use Rattle.model.specs.Tables.{put}
use Rattle.model.specs.Setup.{size_listed, setup_code, fresh_rig}
use Rattle.model.specs.State.{fresh_tables}
use Rattle.model.specs.Run.{fresh, run}
use Rattle.model_shaped.specs.Kept.{RunsPlayable}
use Rattle.model_shaped.proofs.Runs.{runs-playable}
use Rattle.list_rows.specs.Rows.{message_of, zero_rows}
use Rattle.player_printing.specs.Printing.{stop_line, Printed}
use Rattle.player_text.specs.declared.Player.{Player}
use Rattle.player_text.specs.declared.Said.{Said}
use Rattle.player_text.specs.declared.Stage.TheVariants.{Sets, Events}
use Rattle.player_text.specs.Player.{Outcome, counted, stopped, on_size, all_given, on_set}
use Rattle.player_text.specs.Calls.{text, over, Untouched, PlayerFits, GivesOutcome}

pub nothing : {page : List ℕ} → Printed [] page page 0
nothing = record { count = refl; text = refl; rest = refl; long = refl }

-- the player once it has N, one set more, or all sets
module _ (p : Player) (place : ℕ) where
  abbrev sized : ℕ → Player
  sized n = record { stage = Sets; line = place; step = p.step; size = n; given = 0; sets = p.sets; rig = p.rig; count = p.count; tested = p.tested }

  abbrev longer : List ℕ → Player
  longer sets = record { stage = Sets; line = place; step = p.step; size = p.size; given = p.given + 1; sets = sets; rig = p.rig; count = p.count; tested = p.tested }

  abbrev started : List ℕ → Rig → Player
  started sets g = record { stage = Events; line = place; step = p.step; size = p.size; given = p.size; sets = sets; rig = g; count = 0; tested = false }

module _ (p : Player) {page : List ℕ} (ts : List (List (List ℕ))) (rows : List (List ℕ)) where
  pub stops : {after : List ℕ} (r : Said) (code line : ℕ) → (r.player ≡ over p) × Printed (stop_line code line) page after r.printed
      → (o : Outcome) → o ≡ stopped (text p ts rows) code line
      → GivesOutcome o (text r.player ts rows) page after r.printed × PlayerFits r.player ts rows
  unfolding stopped
  stops r code line e o h = rw (h, e.0) (record { known = refl; printed = e.1 }, record { fits = tt })

  module _ (untouched : Untouched ts rows) (place : ℕ) (counts : place ≡ counted p.line) where
    -- `sites=`
    pub takes-size : (n : ℕ) → 1 ≤ n → n ≤ site_limit
        → GivesOutcome (on_size (text p ts rows) (Some n)) (text (sized p place n) ts rows) page page 0
        × PlayerFits (sized p place n) ts rows
    unfolding on_size size_listed
    takes-size n low high = rw (counts, le-leb 1 n low, le-leb n site_limit high) (record { known = refl; printed = nothing }, record { fits = (untouched, high, low) })

    -- one of the sets, not the last
    pub takes-set : (v : ℕ) → p.size ≤ site_limit → p.given + 1 < p.size
        → GivesOutcome (on_set (text p ts rows) (Some v)) (text (longer p place (set p.sets p.given v)) ts rows) page page 0
        × PlayerFits (longer p place (set p.sets p.given v)) ts rows
    unfolding on_set put
    takes-set v high less = rw (counts, lt-ltb (p.given + 1) p.size less) (record { known = rw add-one; printed = nothing }, record { fits = (untouched, high, less) })

    -- the last one: sets that pass
    pub starts : (sets : List ℕ) (g : Rig) → setup_code p.size sets ≡ 0 → g ≡ fresh_rig p.size sets
        → GivesOutcome (all_given (text p ts rows) sets) (text (started p place sets g) ts rows) page page 0
        × PlayerFits (started p place sets g) ts rows
    unfolding all_given fresh fresh_tables run RunsPlayable
    starts sets g e f =
        let ts-same = untouched.none_stored in
        let rows_same = untouched.none_under_way in
        rw (counts, e, f, ts-same, rows_same) (
          record { known = refl; printed = nothing },
          record {
            fits = (runs-playable _ (record { run = record { size = p.size; sets = sets; list = map message_of (zero_rows); events = []; passed = e; same = refl }; long = refl }), refl);
          },
        )
