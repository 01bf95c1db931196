-- The head of a queue is a site's number; one site more of it.
use Prim.Native.Nat.{ℕ, zero, suc, ◌-◌, ◌≤◌}
use mathlib.Core.Path.{◌≡◌}
use mathlib.Core.List.{List}
use native.Mathlib.Omega.{arith}
use Rattle.rig.specs.Limits.{site_limit, SiteNumber}
use Rattle.model.specs.Priority.{head_with, head}
use Rattle.model.proofs.Heads.{head-within}

-- the head, where there is one, may be a site
pub head-listed : (row : List ℕ) (n h : ℕ) → n ≤ site_limit → h ≡ head row n → (h ≡ 0 → ⊥) → SiteNumber h
head-listed row n h le e ne = let w = head-within row n in record { low = omega arith; high = omega arith }

-- the head of the sites below k, once site k is looked at, is that of the sites up to k
pub head-turn : (row : List ℕ) (k : ℕ) {h : ℕ} → 1 ≤ k → h ≡ head row (k - 1) → head_with row k h ≡ head row k
unfolding head
head-turn row zero p e = absurd (omega arith)
head-turn row (suc k) p e = let below : suc k - 1 ≡ k = omega arith in rw (e, below)
