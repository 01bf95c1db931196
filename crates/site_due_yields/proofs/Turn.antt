-- One turn over the rows of a failed site: member i + 1, whose entries stand at index i.
use Prim.Native.Nat.{ℕ, ◌+◌}
use mathlib.Core.Path.{◌≡◌, ◌∙◌}
use mathlib.Core.Bool.{Bool, true, false, not, ◌&&◌}
use mathlib.Core.List.{[], ◌∷◌}
use native.Mathlib.Numerals.{add-one}
use lib.Dec.{eqb}
use lib.ListN.{get_or, set}
use Rattle.rig.specs.declared.Desk.{Desk}
use Rattle.rig.specs.Messages.{yield}
use Rattle.model.specs.Desk.{effect}
use Rattle.model.specs.Sets.{member}
use Rattle.model.specs.Site.{failed_set, must_yield, yielded, yielded_if}
use Rattle.model.specs.Tables.{at, put}
use Rattle.site_due_yields.specs.Entries.{Entries, entries, failed_with}

-- member i + 1 must be yielded
abbrev pub must_here : Entries → ℕ → Bool
must_here x i = not (eqb (get_or x.held i 0) 0) && not (eqb (get_or x.inquired i 0) 0)

-- the entries without those of site i + 1
abbrev pub cleared_at : Entries → ℕ → Entries
cleared_at x i = entries (set x.held i 0) (set x.heir i 0) (set x.inquired i 0)

module _ (d : Desk) (x : Entries) (i : ℕ) {members : ℕ} (own : d.members ≡ members) (in-set : member members (i + 1) ≡ true) where
  must-here : must_yield (failed_with d x) (i + 1) ≡ must_here x i
  unfolding must_yield failed_set at
  must-here = rw (own, in-set, add-one)

  -- nothing is done
  pub passed : must_here x i ≡ false → yielded_if (failed_with d x) (i + 1) ≡ effect (failed_with d x) []
  unfolding yielded_if
  passed e = rw (must-here ∙ e)

  -- the message is sent and the entries are cleared; failed is set already
  pub gone : {number : ℕ} → d.number ≡ number → must_here x i ≡ true → yielded_if (failed_with d x) (i + 1) ≡ effect (failed_with d (cleared_at x i)) (yield number (i + 1) (get_or x.held i 0) ∷ [])
  unfolding yielded_if yielded failed_set at put
  gone n e = rw (must-here ∙ e, add-one, n)
