-- The sites that have an arbiter in their sets, as a set: the entries of a row at its members.
use Prim.Native.Nat.{ℕ, suc, ◌+◌}
use mathlib.Core.List.{List}
use mathlib.Core.Path.{◌≡◌}
use native.Mathlib.Numerals.{add-one}
use Rattle.rig.specs.Limits.{site_limit}
use Rattle.model.specs.Sets.{member, set_of}
use Rattle.model.specs.State.{has_member}
use Rattle.family_sets.proofs.Members.{member_of}
use Rattle.save_entries.specs.Entries.{entries}
use Rattle.save_entries.proofs.Rows.{entries-same}

pub askers-row :
    (sets : List ℕ) (i : ℕ) {set : ℕ}
    → set ≡ set_of (λ k. has_member sets k (i + 1)) site_limit
    → (row : List ℕ)
    → entries (member set) row ≡ entries (λ k. has_member sets k (suc i)) row
askers-row sets i e row = rw (e, add-one i) (entries-same _ _ row (λ k a b. member_of (λ j. has_member sets j (suc i)) site_limit k a b))
