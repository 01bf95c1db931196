-- What does not change in a run: the family of request sets and the order of asks. What is assumed of them: what setup checks of the
-- sets, and the laws of the order.
use Rattle.std.specs.Prelude.{ℕ, ◌≤◌, ◌≡◌, ◌≢◌, Bool, true, false}
use Rattle.protocol.specs.Ask.{Ask}
use Rattle.protocol.specs.Setting.{Setting}

-- sites 1 to size; sets k j says that j is a member of the set of site k; the rest as in a setting
pub record System : Type 0 where
  pub size : ℕ
  pub sets : ℕ → ℕ → Bool
  pub comes_before : Ask → ℕ → Ask → ℕ → Bool

pub record Lawful (y : System) : Type 0 where
  -- "Each site has a request set of sites, its members."
  pub site_in_range : (k j : ℕ) → y.sets k j ≡ true → (1 ≤ k) × (k ≤ y.size)
  pub member_in_range : (k j : ℕ) → y.sets k j ≡ true → (1 ≤ j) × (j ≤ y.size)
  -- no set is empty
  pub non_empty : (k : ℕ) → 1 ≤ k → k ≤ y.size → (j : ℕ) × (y.sets k j ≡ true)
  -- "Every two sets share a site."
  pub meet : (k l : ℕ) → 1 ≤ k → k ≤ y.size → 1 ≤ l → l ≤ y.size → (j : ℕ) × (y.sets k j ≡ true) × (y.sets l j ≡ true)
  -- "Priority" is a strict order, total between different sites
  pub irreflexive : (a : Ask) (x : ℕ) → y.comes_before a x a x ≡ false
  pub transitive : (a : Ask) (x : ℕ) (b : Ask) (z : ℕ) (c : Ask) (w : ℕ) → y.comes_before a x b z ≡ true → y.comes_before b z c w ≡ true → y.comes_before a x c w ≡ true
  pub total : (a : Ask) (x : ℕ) (b : Ask) (z : ℕ) → x ≢ z → y.comes_before a x b z ≡ false → y.comes_before b z a x ≡ true

-- the part of it that concerns arbiter j
abbrev pub setting_of : System → ℕ → Setting
setting_of y j = record { size = y.size; arbiter = j; member = λ k. y.sets k j; comes_before = y.comes_before }
