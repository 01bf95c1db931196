-- A desk read from its rows, and its rows stored, at the code's index.
use Prim.Native.Nat.{ℕ, ◌-◌, ◌≤◌}
use mathlib.Core.Path.{◌≡◌, refl, ◌∙◌}
use mathlib.Core.List.{List, [], ◌∷◌}
use native.Mathlib.Omega.{arith}
use lib.ListN.{length, get_or, set}
use Rattle.rig.specs.declared.Rig.{Rig}
use Rattle.rig.specs.declared.Site.{Site}
use Rattle.rig.specs.declared.Arbiter.{Arbiter}
use Rattle.rig.specs.declared.Desk.{Desk}
use Rattle.rig.specs.Limits.{HELD, HEIR, INQUIRED, QUEUED, table_count}
use Rattle.model.specs.State.{tables}
use Rattle.model.proofs.Tables.{at_read, put-write}
use Rattle.event_desks.specs.Parts.{desk_at, with_rows}

pub desk-read : (n s set : ℕ) (x : Site) (a : Arbiter) (ts : List (List (List ℕ))) → 1 ≤ s
    → record {
      size = n;
      number = s;
      members = set;
      site = x;
      arbiter = a;
      held = get_or (get_or ts HELD []) (s - 1) [];
      heir = get_or (get_or ts HEIR []) (s - 1) [];
      inquired = get_or (get_or ts INQUIRED []) (s - 1) [];
      queued = get_or (get_or ts QUEUED []) (s - 1) [];
    } ≡ desk_at n s set x a ts
desk-read n s set x a ts h = rw (at_read [] (get_or ts HELD []) s h, at_read [] (get_or ts HEIR []) s h, at_read [] (get_or ts INQUIRED []) s h, at_read [] (get_or ts QUEUED []) s h)

-- row i of one table of several
abbrev stored-in : List (List (List ℕ)) → ℕ → ℕ → List ℕ → List (List (List ℕ))
stored-in ts t i row = set ts t (set (get_or ts t []) i row)

-- each of the four stores keeps what the others wrote
four-stored : (g : Rig) (ts : List (List (List ℕ))) (i : ℕ) (d : Desk) → length ts ≡ table_count
    → tables g (stored-in (stored-in (stored-in (stored-in ts HELD i d.held) HEIR i d.heir) INQUIRED i d.inquired) QUEUED i d.queued)
    ≡ record { rig = g; held = set (get_or ts HELD []) i d.held; heir = set (get_or ts HEIR []) i d.heir; inquired = set (get_or ts INQUIRED []) i d.inquired; queued = set (get_or ts QUEUED []) i d.queued }
four-stored g [] i d h = absurd (omega arith)
four-stored g (a ∷ []) i d h = absurd (omega arith)
four-stored g (a ∷ b ∷ []) i d h = absurd (omega arith)
four-stored g (a ∷ b ∷ c ∷ []) i d h = absurd (omega arith)
four-stored g (a ∷ b ∷ c ∷ e ∷ []) i d h = refl
four-stored g (a ∷ b ∷ c ∷ e ∷ f ∷ ts) i d h = absurd (omega arith)

pub rows-stored : (ts : List (List (List ℕ))) (s : ℕ) (d : Desk) → length ts ≡ table_count → 1 ≤ s → (g : Rig)
    → tables g (stored-in (stored-in (stored-in (stored-in ts HELD (s - 1) d.held) HEIR (s - 1) d.heir) INQUIRED (s - 1) d.inquired) QUEUED (s - 1) d.queued) ≡ with_rows (tables g ts) s d
rows-stored ts s d l h g =
    four-stored g ts (s - 1) d l
    ∙ rw (put-write (get_or ts HELD []) s d.held h, put-write (get_or ts HEIR []) s d.heir h, put-write (get_or ts INQUIRED []) s d.inquired h, put-write (get_or ts QUEUED []) s d.queued h)
