-- The row that has at each site the site's number: its entries at the members of a set are the members.
use Prim.Native.Nat.{ℕ, zero, suc, ◌+◌, ◌≤◌, ◌<◌}
use mathlib.Core.List.{List, [], ◌∷◌}
use mathlib.Core.Path.{◌≡◌, refl}
use native.Mathlib.Omega.{arith}
use lib.ListN.{get_or}
use Rattle.rig.specs.Limits.{site_limit}
use Rattle.model.specs.Sets.{member}
use Rattle.model.specs.Tables.{at}
use Rattle.rig_members.specs.Walk.{members_up_to}
use Rattle.save_entries.specs.declared.TheConstants.{SITE_NUMBERS}
use Rattle.save_entries.specs.Entries.{entries_up_to, entries}

-- the n numbers from k on
counted : ℕ → ℕ → List ℕ
counted k zero = []
counted k (suc n) = k ∷ counted (suc k) n

counted-at : (k n i : ℕ) → i < n → get_or (counted k n) i 0 ≡ k + i
unfolding counted
counted-at k zero i h = absurd (omega arith)
counted-at k (suc n) zero h = omega arith
counted-at k (suc n) (suc i) h = let e = counted-at (suc k) n i (omega arith) in omega arith

site-number : (i : ℕ) → i < site_limit → at 0 SITE_NUMBERS (suc i) ≡ suc i
unfolding counted at
site-number i h = let e = counted-at 1 site_limit i h in omega arith

entries-up-to : (set n : ℕ) → n ≤ site_limit → entries_up_to (member set) SITE_NUMBERS n ≡ members_up_to set n
unfolding entries_up_to members_up_to
entries-up-to set zero h = refl
entries-up-to set (suc n) h = rw (entries-up-to set n (omega arith), site-number n (omega arith))

pub members-entries : (set : ℕ) → entries (member set) SITE_NUMBERS ≡ members_up_to set site_limit
unfolding entries
members-entries set = entries-up-to set site_limit (omega arith)
